use Rattle.std.proofs.Common.{get_or, ◌∷◌, []}
use Rattle.std.proofs.lemmas.Option.{slice_get-get_or, slice_get_past}
use Rattle.ffc_clause.specs.Clauses.{plus}
use Rattle.ffc_check.specs.Judged.{judged_check}
use Rattle.ffc_check.proofs.AnswerLemmas.{refuses_broken}
use Rattle.ffc_check.proofs.GivenLemmas.{no_number, number_given, given_alone}
use Rattle.ffc_check.proofs.walk.take_assumed.Goals as goal

pub returns-then-k-check : goal.returns-then-k-check
returns-then-k-check c =
    refuses_broken c.breaks.result 2 c.args.line _ c.breaks.ensures
    (no_number (judged_check c.args.check.now) c.args.clauses.now c.args.line c.args.rest.now c.args.k (slice_get_past c.args.check.now.in_force.now c.args.k c.if-k-check.true))

pub returns : goal.returns
returns c =
    let id = get_or c.args.check.now.in_force.now c.args.k 0 in
    given_alone c.args.clauses.now c.push.new.self c.args.rest.now (plus id ∷ []) _
    (number_given (judged_check c.args.check.now) c.args.clauses.now c.args.line c.args.rest.now c.args.k id (slice_get-get_or c.args.check.now.in_force.now c.args.k 0 c.if-k-check.false))
    c.in_ok-push.ensures
