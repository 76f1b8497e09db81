use Rattle.std.proofs.Common.{◌≡◌, ◌∷◌, ◌++◌, [], nat_lt, length, sym, ap, ap₂, ◌∙◌}
use Rattle.std.specs.List.{list_all}
use Rattle.ffc_clause.specs.Clauses.{Literal}
use Rattle.ffc_clause.specs.Hints.{follows}
use Rattle.ffc_rules.specs.Entries.{is_boolean}
use Rattle.ffc_check.specs.Judged.{judged_check}
use Rattle.ffc_check.proofs.AnswerLemmas.{refuses_broken}
use Rattle.ffc_check.proofs.GivenLemmas.{not_boolean, not_earlier, not_followed, hinted_given, given_alone}
use Rattle.ffc_check.proofs.walk.take_hinted.Goals as goal
use Rattle.ffc_check.proofs.walk.take_hinted.Goals.{After-are_boolean, After-are_earlier, In_ok-follows}

-- what was tested
boolean : (c : After-are_boolean) → list_all (λ x. is_boolean c.args.check.now.table.now x.1) c.args.literals.now ≡ c.are_boolean.result
boolean c = ap (list_all (λ (x : Literal). is_boolean c.args.check.now.table.now x.1)) (sym c.as_slice-lits.ensures) ∙ sym c.are_boolean.ensures

earlier : (c : After-are_earlier) → list_all (λ h. nat_lt h (length c.args.state.now.clauses)) c.args.hints.now ≡ c.are_earlier.result
earlier c = ap₂ (λ n hs. list_all (λ h. nat_lt h n) hs) (sym c.len.ensures) (sym c.as_slice-numbers.ensures) ∙ sym c.are_earlier.ensures

followed : (c : In_ok-follows) → follows c.args.state.now.clauses c.args.literals.now c.args.hints.now ≡ c.in_ok-follows.field-0
followed c = ap₂ (follows c.args.state.now.clauses) (sym c.as_slice-lits.ensures) (sym c.as_slice-numbers.ensures) ∙ sym c.in_ok-follows.ensures.answer

pub returns-then-not-are_boolean-clause-given : goal.returns-then-not-are_boolean-clause-given
returns-then-not-are_boolean-clause-given c =
    let tested = (goal.at.returns-then-not-are_boolean-clause-given c).After-are_boolean in
    refuses_broken c.breaks.result 12 c.args.line _ c.breaks.ensures
    (not_boolean (judged_check c.args.check.now) c.args.state.now.clauses c.args.line c.args.rest.now c.args.literals.now c.args.hints.now (boolean tested ∙ c.if-not-are_boolean.true))

pub returns-then-not-are_earlier-clause-given : goal.returns-then-not-are_earlier-clause-given
returns-then-not-are_earlier-clause-given c =
    let at = goal.at.returns-then-not-are_earlier-clause-given c in
    refuses_broken c.breaks-then-not-are_earlier.result 12 c.args.line _ c.breaks-then-not-are_earlier.ensures
    (not_earlier (judged_check c.args.check.now) c.args.state.now.clauses c.args.line c.args.rest.now c.args.literals.now c.args.hints.now (boolean at.After-are_boolean ∙ c.if-not-are_boolean.false)
    (earlier at.After-are_earlier ∙ c.if-not-are_earlier.true))

pub returns-then-not-branch-clause-given : goal.returns-then-not-branch-clause-given
returns-then-not-branch-clause-given c =
    let at = goal.at.returns-then-not-branch-clause-given c in
    refuses_broken c.breaks-then-not-branch.result 4 c.args.line _ c.breaks-then-not-branch.ensures
    (not_followed (judged_check c.args.check.now) c.args.state.now.clauses c.args.line c.args.rest.now c.args.literals.now c.args.hints.now (boolean at.After-are_boolean ∙ c.if-not-are_boolean.false)
    (earlier at.After-are_earlier ∙ c.if-not-are_earlier.false) (followed at.In_ok-follows ∙ c.if-not-branch.true))

pub returns-clause-given : goal.returns-clause-given
returns-clause-given c =
    let at = goal.at.returns-clause-given c in
    given_alone c.args.state.now.clauses c.push.new.self c.args.rest.now c.args.literals.now _
    (hinted_given (judged_check c.args.check.now) c.args.state.now.clauses c.args.line c.args.rest.now c.args.literals.now c.args.hints.now (boolean at.After-are_boolean ∙ c.if-not-are_boolean.false)
    (earlier at.After-are_earlier ∙ c.if-not-are_earlier.false) (followed at.In_ok-follows ∙ c.if-not-branch.false))
    (c.in_ok-push.ensures ∙ ap (λ x. c.args.state.now.clauses ++ x ∷ []) c.as_slice-lits.ensures)
