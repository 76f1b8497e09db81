use Rattle.std.proofs.Common.{◌≤◌, ◌<◌, ◌∷◌, ◌++◌, [], sym, ap, ◌∙◌, subst}
use Rattle.ffc_check.specs.Gates.{literals_of}
use Rattle.ffc_check.specs.Judged.{judged_check}
use Rattle.ffc_check.proofs.AnswerLemmas.{refuses_broken}
use Rattle.ffc_check.proofs.GivenLemmas.{no_node, no_scheme, scheme_given, given_alone}
use Rattle.ffc_check.proofs.walk.take_scheme.Goals as goal

pub returns-then-node-len : goal.returns-then-node-len
returns-then-node-len c =
    refuses_broken c.breaks.result 12 c.args.line _ c.breaks.ensures
    (no_node (judged_check c.args.check.now) c.args.clauses.now c.args.line c.args.rest.now c.args.at.0 c.args.at.1 c.args.at.2 (subst (λ n. n ≤ c.args.at.0) c.len.ensures.count c.if-node-len.true))

pub returns-in-None : goal.returns-in-None
returns-in-None c =
    refuses_broken c.breaks-in-None.result 3 c.args.line _ c.breaks-in-None.ensures
    (no_scheme (judged_check c.args.check.now) c.args.clauses.now c.args.line c.args.rest.now c.args.at.0 c.args.at.1 c.args.at.2 (subst (λ n. c.args.at.0 < n) c.len.ensures.count c.if-node-len.false)
    (sym c.in_ok-scheme_clause.ensures ∙ ap literals_of c.in-None.is))

pub returns-in_ok-push-in-Some : goal.returns-in_ok-push-in-Some
returns-in_ok-push-in-Some c =
    let clause = c.in-Some.clause.items in
    given_alone c.args.clauses.now c.push.new.self c.args.rest.now clause _
    (scheme_given (judged_check c.args.check.now) c.args.clauses.now c.args.line c.args.rest.now c.args.at.0 c.args.at.1 c.args.at.2 clause (subst (λ n. c.args.at.0 < n) c.len.ensures.count c.if-node-len.false)
    (sym c.in_ok-scheme_clause.ensures ∙ ap literals_of c.in-Some.is))
    (c.in_ok-push-in-Some.ensures ∙ ap (λ x. c.args.clauses.now ++ x ∷ []) c.as_slice.ensures.value)
