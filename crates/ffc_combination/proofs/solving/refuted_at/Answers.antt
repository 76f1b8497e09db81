use Rattle.std.proofs.Common.{◌≡◌, ℕ, ◌<◌, List, length, sym, ap, subst, arith}
use Rattle.std.proofs.lemmas.Result.{IfOk-weaker}
use Rattle.ffc_check.specs.Judged.{judged_check}
use Rattle.ffc_clause.specs.Clauses.{Literal}
use Rattle.ffc_refutation.specs.Given.{AreReadable, AreRight}
use Rattle.ffc_rules.specs.Entries.{NodeCheck}
use Rattle.ffc_values.specs.Values.{IsRefutedByValues}
use Rattle.ffc_combination.specs.Values.{IsLemmaWith, literal_at}
use Rattle.ffc_combination.proofs.DenialLemmas.{first_tested}
use Rattle.ffc_combination.proofs.MissedLemmas.{lemma_short, refuted_by_values}
use Rattle.ffc_combination.proofs.SolutionLemmas.{few_terms, few_values}
use Rattle.ffc_combination.proofs.solving.refuted_at.Goals as goal

pub lemma_with-requires-clause-first : goal.lemma_with-requires-clause-first
lemma_with-requires-clause-first g c =
    let x = c.args.choice.now in
    let tested = c.args.tested.now in
    let solved = c.requires.solved in
    subst (λ (ls : List Literal). (i : ℕ) → i < length ls → literal_at tested i ≡ literal_at ls i) (sym c.as_slice.ensures.value)
    (first_tested (judged_check c.args.check.now) g.F.Field.ORDER solved.degree c.args.reasons.now x tested solved.chosen)

pub by_values-requires-clause-short : goal.by_values-requires-clause-short
by_values-requires-clause-short g c =
    let few = c.requires.solved.solved.few_literals in
    lemma_short c.as_slice.result.now c.args.tested.now c.args.place c.in_ok-literals.literals.items c.in_ok-literals.line c.in_ok-literals.ensures (omega (arith, few, ap length c.as_slice.ensures.value))

pub by_values-requires-clause-values : goal.by_values-requires-clause-values
by_values-requires-clause-values g c = few_values (judged_check c.args.check.now) g.F.Field.ORDER c.args.reasons.now c.args.choice.now c.args.tested.now c.args.determined.items c.requires.solved

pub by_values-requires-clause-terms : goal.by_values-requires-clause-terms
by_values-requires-clause-terms g c = few_terms (judged_check c.args.check.now) g.F.Field.ORDER c.args.reasons.now c.args.choice.now c.args.tested.now c.args.determined.items c.requires.solved

pub returns-clause-readable : goal.returns-clause-readable
returns-clause-readable g c =
    let p = g.F.Field.ORDER in
    let check = judged_check c.args.check.now in
    let reasons = c.args.reasons.now in
    let x = c.args.choice.now in
    let tested = c.args.tested.now in
    let values = c.args.determined.items in
    let literals = c.in_ok-literals.literals.items in
    let line = c.in_ok-literals.line in
    let vs = c.as_slice-variables.result.now in
    let n = c.len-nodes.result in
    let lemma : IsLemmaWith x.literals.items tested c.args.place literals line = subst (λ (ls : List Literal). IsLemmaWith ls tested c.args.place literals line) c.as_slice.ensures.value c.in_ok-literals.ensures in
    let refuted = refuted_by_values check p reasons x tested values c.args.place c.requires c.in_ok-sides.sides c.in_ok-sides.ensures.same c.in_ok-sides.ensures.normal literals line lemma in
    let is : IsRefutedByValues check reasons p literals n vs values line c.in_ok-sides.sides =
    subst (λ (us : List ℕ). IsRefutedByValues check reasons p literals n us values line c.in_ok-sides.sides) (sym c.as_slice-variables.ensures.value)
    (subst (λ (k : ℕ). IsRefutedByValues check reasons p literals k x.variables.items values line c.in_ok-sides.sides) (sym c.len-nodes.ensures.count) refuted) in
    IfOk-weaker c.by_values.result (λ lines. (k : NodeCheck) → IsRefutedByValues k reasons p literals n vs values line c.in_ok-sides.sides → AreReadable lines) AreReadable (λ lines f. f check is) c.by_values.ensures.readable

pub returns-clause-right : goal.returns-clause-right
returns-clause-right g c =
    let p = g.F.Field.ORDER in
    let check = judged_check c.args.check.now in
    let reasons = c.args.reasons.now in
    let x = c.args.choice.now in
    let tested = c.args.tested.now in
    let values = c.args.determined.items in
    let literals = c.in_ok-literals.literals.items in
    let line = c.in_ok-literals.line in
    let vs = c.as_slice-variables.result.now in
    let n = c.len-nodes.result in
    let lemma : IsLemmaWith x.literals.items tested c.args.place literals line = subst (λ (ls : List Literal). IsLemmaWith ls tested c.args.place literals line) c.as_slice.ensures.value c.in_ok-literals.ensures in
    let refuted = refuted_by_values check p reasons x tested values c.args.place c.requires c.in_ok-sides.sides c.in_ok-sides.ensures.same c.in_ok-sides.ensures.normal literals line lemma in
    let is : IsRefutedByValues check reasons p literals n vs values line c.in_ok-sides.sides =
    subst (λ (us : List ℕ). IsRefutedByValues check reasons p literals n us values line c.in_ok-sides.sides) (sym c.as_slice-variables.ensures.value)
    (subst (λ (k : ℕ). IsRefutedByValues check reasons p literals k x.variables.items values line c.in_ok-sides.sides) (sym c.len-nodes.ensures.count) refuted) in
    IfOk-weaker c.by_values.result (λ lines. (k : NodeCheck) → IsRefutedByValues k reasons p literals n vs values line c.in_ok-sides.sides → AreRight k lines) (AreRight check) (λ lines f. f check is) c.by_values.ensures.right
