use Rattle.std.proofs.Common.{◌≤◌, ◌∙◌, List, ℕ, length, map, sym, ap, subst}
use Rattle.std.proofs.lemmas.List.{length-map}
use Rattle.ffc_check.specs.Judged.{judged_check}
use Rattle.ffc_echelon.specs.Forms.{IsContradiction}
use Rattle.ffc_echelon.specs.Solving.{IsSolvedBy, IsCombinedAt, AreValues}
use Rattle.ffc_linear.specs.Systems.{Solves}
use Rattle.ffc_linear.specs.Refuting.{AreForcedForms}
use Rattle.ffc_linear.proofs.DecisionLemmas.{equal_below, unequal_below, few_equations, equation_count, contradiction_decides, values_right}
use Rattle.ffc_linear.proofs.deciding.settled.Goals as goal

pub solve-requires-clause-equal : goal.solve-requires-clause-equal
solve-requires-clause-equal g c = equal_below (judged_check c.args.check.now) g.F.Field.ORDER c.args.conjunction.now c.args.constants.now c.args.equal.now c.args.unequal.now c.requires

pub solve-requires-clause-unequal : goal.solve-requires-clause-unequal
solve-requires-clause-unequal g c = unequal_below (judged_check c.args.check.now) g.F.Field.ORDER c.args.conjunction.now c.args.constants.now c.args.equal.now c.args.unequal.now c.requires

pub combined-requires : goal.combined-requires
combined-requires g c =
    let p = g.F.Field.ORDER in
    let value = g.F.Field.value in
    let is : IsCombinedAt p c.args.equal.now c.args.unequal.now c.in-Combination.place (map value c.in-Combination.coefficients.items) =
    subst (IsSolvedBy p value (length c.args.constants.now) c.args.equal.now c.args.unequal.now) c.in-Combination.is c.in_ok-coefficients.ensures.found in
    record {
      constants = c.args.constants.now;
      equal = c.args.equal.now;
      unequal = c.args.unequal.now;
      linear = c.requires;
      combined = subst (λ xs. IsCombinedAt p c.args.equal.now c.args.unequal.now c.in-Combination.place (map value xs)) (sym c.as_slice-in-Combination.ensures.value) is;
    }

pub returns-in_ok-pairs-in-Values-clause-answer : goal.returns-in_ok-pairs-in-Values-clause-answer
returns-in_ok-pairs-in-Values-clause-answer g c units linear =
    let p = g.F.Field.ORDER in
    let value = g.F.Field.value in
    let values = c.in-Values.values.items in
    let are : AreValues p (length c.args.constants.now) c.args.equal.now c.args.unequal.now (map value values) =
    subst (IsSolvedBy p value (length c.args.constants.now) c.args.equal.now c.args.unequal.now) c.in-Values.is c.in_ok-coefficients.ensures.found in
    let right = values_right (judged_check c.args.check.now) p c.args.conjunction.now c.args.constants.now c.args.equal.now c.args.unequal.now (map value values) c.in_ok-pairs-in-Values.pairs.items c.requires are
    c.in_ok-pairs-in-Values.ensures.constants
    (λ k es us of solves. c.in_ok-pairs-in-Values.ensures.model k es us of (subst (λ vs. Solves p es us (map value vs)) (sym c.as_slice-in-Values.ensures.value) solves)) in
    (linear, right.0, right.1)

pub refute_equations-requires-clause-equations : goal.refute_equations-requires-clause-equations
refute_equations-requires-clause-equations g c =
    subst (λ (ids : List ℕ). length ids ≤ 4096) (sym c.as_slice-equations.ensures.value)
    (few_equations (judged_check c.args.check.now) g.F.Field.ORDER c.args.conjunction.now c.args.constants.now c.args.equal.now c.args.unequal.now c.requires)

pub refute_equations-requires-clause-coefficients : goal.refute_equations-requires-clause-coefficients
refute_equations-requires-clause-coefficients g c =
    let p = g.F.Field.ORDER in
    let value = g.F.Field.value in
    let is : IsContradiction p (length c.args.constants.now) c.args.equal.now (map value c.in-Contradiction.coefficients.items) =
    subst (IsSolvedBy p value (length c.args.constants.now) c.args.equal.now c.args.unequal.now) c.in-Contradiction.is c.in_ok-coefficients.ensures.found in
    ap length c.as_slice.ensures.value ∙ sym (length-map c.in-Contradiction.coefficients.items value) ∙ is.long
    ∙ sym (equation_count (judged_check c.args.check.now) p c.args.conjunction.now c.args.constants.now c.args.equal.now c.args.unequal.now c.requires)
    ∙ ap length (sym c.as_slice-equations.ensures.value)

pub returns-in_ok-lines-in-Contradiction-clause-answer : goal.returns-in_ok-lines-in-Contradiction-clause-answer
returns-in_ok-lines-in-Contradiction-clause-answer g c =
    let p = g.F.Field.ORDER in
    let value = g.F.Field.value in
    let conjunction = c.args.conjunction.now in
    let cs = map value c.in-Contradiction.coefficients.items in
    let is : IsContradiction p (length c.args.constants.now) c.args.equal.now cs =
    subst (IsSolvedBy p value (length c.args.constants.now) c.args.equal.now c.args.unequal.now) c.in-Contradiction.is c.in_ok-coefficients.ensures.found in
    contradiction_decides (judged_check c.args.check.now) p conjunction c.args.constants.now c.args.equal.now c.args.unequal.now c.requires cs c.in_ok-lines-in-Contradiction.lines
    (λ k forced names vectors are contradicts.
    c.in_ok-lines-in-Contradiction.ensures k forced names vectors
    (subst (λ rs. AreForcedForms k p rs forced names c.as_slice-equations.result.now vectors) (sym c.as_slice-reasons.ensures.value)
    (subst (λ ids. AreForcedForms k p conjunction.reasons.items forced names ids vectors) (sym c.as_slice-equations.ensures.value) are))
    (subst (λ xs. IsContradiction p (length names) vectors (map value xs)) (sym c.as_slice.ensures.value) contradicts))
    is
