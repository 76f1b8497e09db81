use Rattle.std.proofs.Common.{◌≡◌, ◌+◌, ◌<◌, ◌∙◌, List, All, length, map, sym, subst, subst₂, ap, arith}
use Rattle.std.specs.List.Sorted.{IsPermutation}
use Rattle.std.proofs.lemmas.List.{length-map}
use Rattle.ffc_echelon.specs.Vectors.{Coordinates, AreCoordinates, IsBelow}
use Rattle.ffc_echelon.specs.Ordering.{numbers_below, ArePlaced, AreReordered}
use Rattle.ffc_echelon.specs.Solving.{IsSolvedBy}
use Rattle.ffc_echelon.proofs.OrderingLemmas.{order_inside, all_within, contradiction_restored}
use Rattle.ffc_echelon.proofs.SolvingLemmas.{valid_all, combined_restored, values_restored}
use Rattle.ffc_echelon.proofs.solving.solve.Goals as goal

pub reordered_all-requires-clause-few : goal.reordered_all-requires-clause-few
reordered_all-requires-clause-few g c = omega (arith, c.requires.columns, ap length c.as_slice-order.ensures.value, c.in_ok-order.ensures.long)

pub reordered_all-requires-clause-inside : goal.reordered_all-requires-clause-inside
reordered_all-requires-clause-inside g c =
    let n = c.args.unknowns in
    let order = c.as_slice-order.result.now in
    let wide : length order ≡ n = ap length c.as_slice-order.ensures.value ∙ c.in_ok-order.ensures.long in
    subst (λ m. All (λ k. k < m) order) (sym wide) (order_inside 0 n order (subst (IsPermutation (numbers_below n)) (sym c.as_slice-order.ensures.value) c.in_ok-order.ensures.order))

pub reordered_all-requires-clause-within : goal.reordered_all-requires-clause-within
reordered_all-requires-clause-within g c =
    let wide : length c.as_slice-order.result.now ≡ c.args.unknowns = ap length c.as_slice-order.ensures.value ∙ c.in_ok-order.ensures.long in
    subst (λ m. All (IsBelow (m + 1)) c.args.equal.now) (sym wide) c.requires.equal

pub reordered_all-requires-2-clause-few : goal.reordered_all-requires-2-clause-few
reordered_all-requires-2-clause-few g c = omega (arith, c.requires.columns, ap length c.as_slice-order.ensures.value, c.in_ok-order.ensures.long)

pub reordered_all-requires-2-clause-inside : goal.reordered_all-requires-2-clause-inside
reordered_all-requires-2-clause-inside g c =
    let n = c.args.unknowns in
    let order = c.as_slice-order.result.now in
    let wide : length order ≡ n = ap length c.as_slice-order.ensures.value ∙ c.in_ok-order.ensures.long in
    subst (λ m. All (λ k. k < m) order) (sym wide) (order_inside 0 n order (subst (IsPermutation (numbers_below n)) (sym c.as_slice-order.ensures.value) c.in_ok-order.ensures.order))

pub reordered_all-requires-2-clause-within : goal.reordered_all-requires-2-clause-within
reordered_all-requires-2-clause-within g c =
    let wide : length c.as_slice-order.result.now ≡ c.args.unknowns = ap length c.as_slice-order.ensures.value ∙ c.in_ok-order.ensures.long in
    subst (λ m. All (IsBelow (m + 1)) c.args.unequal.now) (sym wide) c.requires.unequal

pub solved-requires-clause-equal : goal.solved-requires-clause-equal
solved-requires-clause-equal g c =
    let p = g.F.Field.ORDER in
    let order = c.as_slice-order.result.now in
    let wide : length order ≡ c.args.unknowns = ap length c.as_slice-order.ensures.value ∙ c.in_ok-order.ensures.long in
    let rs : List Coordinates = c.as_slice.result.now in
    let are : AreReordered p order c.args.equal.now rs = subst (λ (l : List Coordinates). AreReordered p order c.args.equal.now l) (sym c.as_slice.ensures.value) c.in_ok-first.ensures.all in
    subst (λ m. All (IsBelow (m + 1)) rs) wide (all_within p order c.args.equal.now rs are)

pub solved-requires-clause-unequal : goal.solved-requires-clause-unequal
solved-requires-clause-unequal g c =
    let p = g.F.Field.ORDER in
    let order = c.as_slice-order.result.now in
    let wide : length order ≡ c.args.unknowns = ap length c.as_slice-order.ensures.value ∙ c.in_ok-order.ensures.long in
    let qs : List Coordinates = c.as_slice-2.result.now in
    let are : AreReordered p order c.args.unequal.now qs = subst (λ (l : List Coordinates). AreReordered p order c.args.unequal.now l) (sym c.as_slice-2.ensures.value) c.in_ok-others.ensures.all in
    subst (λ m. All (IsBelow (m + 1)) qs) wide (all_within p order c.args.unequal.now qs are)

pub solved-requires-clause-equal_valid : goal.solved-requires-clause-equal_valid
solved-requires-clause-equal_valid g c =
    let p = g.F.Field.ORDER in
    let order = c.as_slice-order.result.now in
    subst (λ (l : List Coordinates). All (AreCoordinates p) l) (sym c.as_slice.ensures.value) (valid_all p order c.args.equal.now c.in_ok-first.first.items c.in_ok-first.ensures.all)

pub solved-requires-clause-unequal_valid : goal.solved-requires-clause-unequal_valid
solved-requires-clause-unequal_valid g c =
    let p = g.F.Field.ORDER in
    let order = c.as_slice-order.result.now in
    subst (λ (l : List Coordinates). All (AreCoordinates p) l) (sym c.as_slice-2.ensures.value) (valid_all p order c.args.unequal.now c.in_ok-others.others.items c.in_ok-others.ensures.all)

pub returns-in-Contradiction-clause-found : goal.returns-in-Contradiction-clause-found
returns-in-Contradiction-clause-found g c =
    let p = g.F.Field.ORDER in
    let value = g.F.Field.value in
    let n = c.args.unknowns in
    let order = c.as_slice-order.result.now in
    let equal = c.args.equal.now in
    let unequal = c.args.unequal.now in
    let is : IsPermutation (numbers_below n) order = subst (IsPermutation (numbers_below n)) (sym c.as_slice-order.ensures.value) c.in_ok-order.ensures.order in
    let rs : List Coordinates = c.as_slice.result.now in
    let first : AreReordered p order equal rs = subst (λ (l : List Coordinates). AreReordered p order equal l) (sym c.as_slice.ensures.value) c.in_ok-first.ensures.all in
    let qs : List Coordinates = c.as_slice-2.result.now in
    let others : AreReordered p order unequal qs = subst (λ (l : List Coordinates). AreReordered p order unequal l) (sym c.as_slice-2.ensures.value) c.in_ok-others.ensures.all in
    contradiction_restored p n order is (map value c.in-Contradiction.coefficients.items) equal rs first
    (subst (IsSolvedBy p value n rs qs) c.in-Contradiction.is c.in_ok-coefficients.ensures.found)

pub returns-in-Combination-clause-found : goal.returns-in-Combination-clause-found
returns-in-Combination-clause-found g c =
    let p = g.F.Field.ORDER in
    let value = g.F.Field.value in
    let n = c.args.unknowns in
    let order = c.as_slice-order.result.now in
    let equal = c.args.equal.now in
    let unequal = c.args.unequal.now in
    let is : IsPermutation (numbers_below n) order = subst (IsPermutation (numbers_below n)) (sym c.as_slice-order.ensures.value) c.in_ok-order.ensures.order in
    let rs : List Coordinates = c.as_slice.result.now in
    let first : AreReordered p order equal rs = subst (λ (l : List Coordinates). AreReordered p order equal l) (sym c.as_slice.ensures.value) c.in_ok-first.ensures.all in
    let qs : List Coordinates = c.as_slice-2.result.now in
    let others : AreReordered p order unequal qs = subst (λ (l : List Coordinates). AreReordered p order unequal l) (sym c.as_slice-2.ensures.value) c.in_ok-others.ensures.all in
    combined_restored p n order is equal rs unequal qs first others c.in-Combination.place (map value c.in-Combination.coefficients.items)
    (subst (IsSolvedBy p value n rs qs) c.in-Combination.is c.in_ok-coefficients.ensures.found)

pub returns-clause-found : goal.returns-clause-found
returns-clause-found g c =
    let p = g.F.Field.ORDER in
    let value = g.F.Field.value in
    let n = c.args.unknowns in
    let order = c.as_slice-order.result.now in
    let equal = c.args.equal.now in
    let unequal = c.args.unequal.now in
    let is : IsPermutation (numbers_below n) order = subst (IsPermutation (numbers_below n)) (sym c.as_slice-order.ensures.value) c.in_ok-order.ensures.order in
    let rs : List Coordinates = c.as_slice.result.now in
    let first : AreReordered p order equal rs = subst (λ (l : List Coordinates). AreReordered p order equal l) (sym c.as_slice.ensures.value) c.in_ok-first.ensures.all in
    let qs : List Coordinates = c.as_slice-2.result.now in
    let others : AreReordered p order unequal qs = subst (λ (l : List Coordinates). AreReordered p order unequal l) (sym c.as_slice-2.ensures.value) c.in_ok-others.ensures.all in
    let wide : length order ≡ n = ap length c.as_slice-order.ensures.value ∙ c.in_ok-order.ensures.long in
    let placed = c.in_ok-values-in-Values.values.items in
    let given = c.in-Values.values.items in
    let there : ArePlaced value order given n placed = subst₂ (λ (l : List g.row.F.Denot) m. ArePlaced value order l m placed) c.as_slice-in-Values.ensures.value wide c.in_ok-values-in-Values.ensures.each in
    values_restored p n order is equal rs unequal qs first others (map value given) (map value placed) (length-map placed value ∙ c.in_ok-values-in-Values.ensures.wide ∙ wide) there
    (subst (IsSolvedBy p value n rs qs) c.in-Values.is c.in_ok-coefficients.ensures.found)
