use Rattle.std.proofs.Common.{◌≡◌, ◌∙◌, List, ℕ, length, map, sym, ap, subst, subst₂}
use Rattle.std.specs.List.Sorted.{IsPermutation}
use Rattle.std.proofs.lemmas.List.Sorted.{IsPermutation-map}
use Rattle.std.proofs.lemmas.Result.{IfOk-weaker}
use Rattle.ffc_echelon.specs.Ordering.{numbers_below}
use Rattle.ffc_echelon.proofs.OrderingLemmas.{order_length}
use Rattle.ffc_echelon.proofs.ordering.rarest_first.Goals as goal

pub returns-clause-order : goal.returns-clause-order
returns-clause-order g c =
    let f : ℕ × ℕ → ℕ = λ e. e.1 in
    let old : List (ℕ × ℕ) = c.in_ok-pairs.pairs.items in
    let new : List (ℕ × ℕ) = c.as_slice-2.result.now in
    let before : map f old ≡ numbers_below c.args.unknowns = c.in_ok-pairs.ensures ∙ ap numbers_below (ap length c.as_slice.ensures.value ∙ c.in_ok-counts.ensures) in
    let sorted : IsPermutation old new = subst (IsPermutation old) (sym c.as_slice-2.ensures.value) c.sort_unstable.ensures.permutation in
    IfOk-weaker c.unknowns_of.result (λ order. order.items ≡ map f new) (λ order. IsPermutation (numbers_below c.args.unknowns) order.items)
    (λ order is. subst₂ IsPermutation before (sym is) (IsPermutation-map f old new sorted)) c.unknowns_of.ensures

pub returns-clause-long : goal.returns-clause-long
returns-clause-long g c =
    let f : ℕ × ℕ → ℕ = λ e. e.1 in
    let old : List (ℕ × ℕ) = c.in_ok-pairs.pairs.items in
    let new : List (ℕ × ℕ) = c.as_slice-2.result.now in
    let before : map f old ≡ numbers_below c.args.unknowns = c.in_ok-pairs.ensures ∙ ap numbers_below (ap length c.as_slice.ensures.value ∙ c.in_ok-counts.ensures) in
    let sorted : IsPermutation old new = subst (IsPermutation old) (sym c.as_slice-2.ensures.value) c.sort_unstable.ensures.permutation in
    IfOk-weaker c.unknowns_of.result (λ order. order.items ≡ map f new) (λ order. length order.items ≡ c.args.unknowns)
    (λ order is. order_length 0 c.args.unknowns order.items (subst₂ IsPermutation before (sym is) (IsPermutation-map f old new sorted))) c.unknowns_of.ensures
