use Rattle.std.proofs.lemmas.Result.{IfOk-weaker}
use Rattle.ffc_macaulay.specs.Identities.{AreLinesOf}
use Rattle.ffc_macaulay.specs.Solutions.{IsSolvedBy}
use Rattle.ffc_ring.specs.Polynomial.{Terms}
use Rattle.std.proofs.Common.{List, sym, ◌∙◌}
use Rattle.ffc_combination.specs.Attempts.{IsLookedFor}
use Rattle.ffc_combination.proofs.AttemptLemmas.{looks_for_solution, none_found, solution_found}
use Rattle.ffc_combination.proofs.attempts.looked_for.Goals as goal

pub returns-in-Some-clause-answer : goal.returns-in-Some-clause-answer
returns-in-Some-clause-answer g c =
    let p = g.F.Field.ORDER in
    let d = c.args.degree in
    let x = c.args.choice.now in
    let vs = c.as_slice-variables.result.now in
    let es = c.as_slice-degrees.result.now in
    IfOk-weaker c.solved.result (λ s. (lines : List Terms) → AreLinesOf p c.args.generators.now lines → IsSolvedBy p d vs es lines c.in-Some.count s) (λ s. (lines : List Terms) → AreLinesOf p c.args.generators.now lines → IsLookedFor p d x lines s)
    (λ s is lines of. solution_found p d x lines c.in-Some.count (sym c.constants_at.ensures ∙ c.in-Some.is) vs es c.as_slice-variables.ensures.value c.as_slice-degrees.ensures.value s (is lines of)) c.solved.ensures.answer

pub returns-in-Some-clause-units : goal.returns-in-Some-clause-units
returns-in-Some-clause-units g c =
    looks_for_solution c.args.degree c.args.choice.now c.as_slice-variables.result.now c.as_slice-degrees.result.now c.args.meter.now c.solved.new.meter c.solved.result c.as_slice-variables.ensures.value c.as_slice-degrees.ensures.value
    c.requires.rises c.requires.some c.solved.ensures.units

pub returns-in-None-2-clause-answer : goal.returns-in-None-2-clause-answer
returns-in-None-2-clause-answer g c = λ lines of.
    (let none = rw c.in-None-2.is at c.in_ok-summands-in-None.ensures.none in
    none_found g.F.Field.ORDER c.args.degree c.args.choice.now lines (sym c.constants_at.ensures ∙ c.in-None.is) c.as_slice-variables.result.now c.as_slice-degrees.result.now c.as_slice-variables.ensures.value c.as_slice-degrees.ensures.value (none lines of))
