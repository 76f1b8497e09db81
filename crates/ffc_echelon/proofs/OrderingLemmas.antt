-- Systems whose unknowns are taken in another order.
use Rattle.std.proofs.Common.{◌≡◌, ◌≢◌, ℕ, zero, suc, ◌+◌, ◌*◌, ◌%◌, ◌<◌, ◌≤◌, eqb, false, List, [], ◌∷◌, ◌++◌, length, get_or, set, map, take, sum_by, All, Contains, inl, inr, refl, sym, ap, ap₂, ◌∙◌, subst, arith, add-one, take_all, slice_get, Some, length-append, eq-eqb, ne_eqb}
use Rattle.std.specs.List.{IsDistinct}
use Rattle.std.specs.List.Sorted.{IsPermutation}
use Rattle.std.proofs.lemmas.Bool.{cases_eq, cases_lt, false≢true}
use Rattle.std.proofs.lemmas.List.{take_more, get_or_append_left, get_or_push, get_or-map, get_or-set_same, get_or-set_other, map-set, map_push, length-map}
use Rattle.std.proofs.lemmas.Option.{none-some, same_Some}
use Rattle.std.proofs.lemmas.List.Elements.{All-head, All-tail, All-cons, All-nil}
use Rattle.std.proofs.lemmas.List.Sorted.{All-permutation, Contains-permutation, length_permutation, sum_by-IsPermutation}
use Rattle.std.proofs.lemmas.List.Sums.{sum_by_push}
use Rattle.std.proofs.lemmas.Map.Keys.{IsDistinct-IsPermutation, IsDistinct-from_apart, apart_from_distinct}
use Rattle.ffc_field.specs.Modular.{add_mod}
use Rattle.ffc_echelon.specs.Forms.{IsContradiction, IsCombination}
use Rattle.ffc_echelon.specs.Vectors.{Coordinates, AreCoordinates, coordinate, IsBelow, dot, sum_in}
use Rattle.ffc_echelon.specs.Ordering.{numbers_below, ArePlaced, IsReordered, AreReordered}
use Rattle.ffc_echelon.proofs.CoordinateLemmas.{coordinate-past}
use Rattle.ffc_echelon.proofs.Dots.{product_below, in_point, dot_product_below}

-- ---- the numbers below a number

pub numbers_length : (n : ℕ) → length (numbers_below n) ≡ n
numbers_length zero = refl
numbers_length (suc n) = omega (arith, length-append (numbers_below n) (n ∷ []), numbers_length n)

numbers_at : (n i d : ℕ) → i < n → get_or (numbers_below n) i d ≡ i
numbers_at zero i d less = absurd (omega arith)
numbers_at (suc n) i d less = elim (cases_eq i n) [
  | inl same ↦ get_or_push (numbers_below n) n d i (numbers_length n ∙ sym same) ∙ sym same
  | inr other ↦
      get_or_append_left (numbers_below n) (n ∷ []) d i (omega (arith, numbers_length n, other))
      ∙ numbers_at n i d (omega (arith, other))
]

numbers_small : (n : ℕ) → All (λ k. k < n) (numbers_below n)
numbers_small n k d inside = let less : k < n = omega (arith, numbers_length n, inside) in omega (arith, numbers_at n k d less, less)

differ : (x y : ℕ) → x < y → eqb x y ≡ false
differ x y less = ne_eqb x y (λ e. omega (arith, e, less))

numbers_distinct : (n : ℕ) → IsDistinct eqb (numbers_below n)
numbers_distinct n = IsDistinct-from_apart eqb (numbers_below n) (λ i j d before inside.
    let less : j < n = omega (arith, numbers_length n, inside) in
    let one = numbers_at n i d (omega (arith, before, less)) in
    let two = numbers_at n j d less in
    differ (get_or (numbers_below n) i d) (get_or (numbers_below n) j d) (omega (arith, one, two, before)))

eqb_flips : (x y : ℕ) → eqb x y ≡ eqb y x
eqb_flips x y = elim (cases_eq x y) [
  | inl same ↦ ap₂ eqb same (sym same)
  | inr other ↦ ne_eqb x y other ∙ sym (ne_eqb y x (λ e. other (sym e)))
]

pub reordered_length : (p : ℕ) (order : List ℕ) (vs rs : List Coordinates) → AreReordered p order vs rs → length rs ≡ length vs
reordered_length p order [] [] are = refl
reordered_length p order [] (r ∷ rs) are = absurd are
reordered_length p order (v ∷ vs) [] are = absurd are
reordered_length p order (v ∷ vs) (r ∷ rs) are = let rest = reordered_length p order vs rs are.1 in omega (arith, rest)

-- ---- an order of so many unknowns

module _ (p n : ℕ) (order : List ℕ) (is : IsPermutation (numbers_below n) order) where
  pub order_length : length order ≡ n
  order_length = length_permutation (numbers_below n) order is ∙ numbers_length n

  pub order_inside : All (λ k. k < n) order
  order_inside = All-permutation (λ k. k < n) (numbers_below n) order is (numbers_small n)

  -- different places have different unknowns
  pub order_apart : (i j : ℕ) → i < j → j < n → get_or order i 0 ≢ get_or order j 0
  order_apart i j before inside same =
      let apart = apart_from_distinct eqb order i j 0 (IsDistinct-IsPermutation eqb eqb_flips (numbers_below n) order is (numbers_distinct n)) before (omega (arith, order_length, inside)) in
      false≢true (sym apart ∙ eq-eqb (get_or order i 0) (get_or order j 0) same)

  -- each unknown has a place
  pub placed_at : (k : ℕ) → k < n → (i : ℕ) × (i < n) × (get_or order i 0 ≡ k)
  placed_at k less =
      let found : Contains order k = Contains-permutation (numbers_below n) order k is (k, omega (arith, numbers_length n, less), numbers_at n k k less) in
      let inside : found.0 < n = omega (arith, order_length, found.1) in
      (found.0, inside, any order found.0 0 k found.1 ∙ found.2)
    where
      any : (xs : List ℕ) (i d e : ℕ) → i < length xs → get_or xs i d ≡ get_or xs i e
      any [] i d e h = absurd (omega arith)
      any (x ∷ xs) zero d e h = refl
      any (x ∷ xs) (suc i) d e h = any xs i d e (omega arith)

  -- one more value is placed
  pub placed_more : {F : Type 0} (value : F → ℕ) (values point : List F) (j : ℕ) (x : F) → j < n → length point ≡ n → value x ≡ get_or (map value values) j 0
      → ArePlaced value order values j point → ArePlaced value order values (j + 1) (set point (get_or order j 0) x)
  placed_more value values point j x inside wide same before i less =
      let k : ℕ = get_or order j 0 in
      let there : k < length (map value point) = omega (arith, length-map point value, wide, order_inside j 0 (omega (arith, order_length, inside))) in
      ap (λ (l : List ℕ). get_or l (get_or order i 0) 0) (map-set value point k x)
      ∙ elim (cases_eq i j) as (λ _. get_or (set (map value point) k (value x)) (get_or order i 0) 0 ≡ get_or (map value values) i 0) [
        | inl e ↦
            ap (λ m. get_or (set (map value point) k (value x)) (get_or order m 0) 0) e
            ∙ get_or-set_same (map value point) k (value x) 0 there ∙ same ∙ ap (λ m. get_or (map value values) m 0) (sym e)
        | inr ne ↦
            get_or-set_other (map value point) k (get_or order i 0) (value x) 0 (order_apart i j (omega (arith, less, ne)) inside)
            ∙ before i (omega (arith, less, ne))
      ]

  -- ---- combinations

  sums_alike : (cs : List ℕ) (vs rs : List Coordinates) (i k : ℕ) → AreReordered p order vs rs → ((v r : Coordinates) → IsReordered p order v r → coordinate r i ≡ coordinate v k) → sum_in cs rs i ≡ sum_in cs vs k
  sums_alike [] vs rs i k are same = refl
  sums_alike (c ∷ cs) [] [] i k are same = refl
  sums_alike (c ∷ cs) [] (r ∷ rs) i k are same = absurd are
  sums_alike (c ∷ cs) (v ∷ vs) [] i k are same = absurd are
  sums_alike (c ∷ cs) (v ∷ vs) (r ∷ rs) i k are same = ap₂ (λ x y. c * x + y) (same v r are.0) (sums_alike cs vs rs i k are.1 same)

  -- the column of each number stands somewhere
  column_there : (k : ℕ) → (i : ℕ) × ((v r : Coordinates) → IsReordered p order v r → coordinate r i ≡ coordinate v k)
  column_there k = elim (cases_lt k n) [
    | inl less ↦
        let at = placed_at k less in
        (at.0, λ v r one. one.each at.0 (omega (arith, order_length, at.1)) ∙ ap (coordinate v) at.2)
    | inr past ↦ elim (cases_eq k n) [
      | inl same ↦ (k, λ v r one. subst (λ j. coordinate r j ≡ coordinate v j) (order_length ∙ sym same) one.last)
      | inr other ↦ (
        k,
        λ v r one.
            coordinate-past (length order + 1) r k one.within (omega (arith, order_length, past, other))
            ∙ sym (coordinate-past (length order + 1) v k one.before (omega (arith, order_length, past, other))),
      )
    ]
  ]

  pub contradiction_restored : (cs : List ℕ) (vs rs : List Coordinates) → AreReordered p order vs rs → IsContradiction p n rs cs → IsContradiction p n vs cs
  contradiction_restored cs vs rs are h = record {
    long = h.long ∙ reordered_length p order vs rs are;
    unknowns = λ k less.
        (let at = placed_at k less in
        ap (λ x. x % p) (sym (sums_alike cs vs rs at.0 k are (λ v r one. one.each at.0 (omega (arith, order_length, at.1)) ∙ ap (coordinate v) at.2)))
        ∙ h.unknowns at.0 at.1);
    constant = λ e. h.constant (ap (λ x. x % p) (sums_alike cs vs rs n n are (λ v r one. subst (λ j. coordinate r j ≡ coordinate v j) order_length one.last)) ∙ e);
  }

  pub combination_restored : (cs : List ℕ) (vs rs : List Coordinates) (v r : Coordinates) → AreReordered p order vs rs → IsReordered p order v r → IsCombination p rs r [] cs → IsCombination p vs v [] cs
  combination_restored cs vs rs v r are one h = record {
    long = h.long ∙ reordered_length p order vs rs are;
    sum = λ k.
        (let at = column_there k in
        ap (add_mod p 0) (sym (sums_alike cs vs rs at.0 k are at.1)) ∙ h.sum at.0 ∙ ap (λ x. x % p) (at.1 v r one));
  }

  -- ---- values

  by_place : (h g f : ℕ → ℕ) (xs : List ℕ) (m : ℕ) → m ≤ length xs → ((i : ℕ) → i < m → f i * g i ≡ h (get_or xs i 0)) → sum_by h (take m xs) ≡ product_below g f m
  by_place h g f xs zero few same = refl
  by_place h g f xs (suc m) few same =
      ap (λ k. sum_by h (take k xs)) (sym (add-one m)) ∙ ap (sum_by h) (take_more xs m 0 few) ∙ sum_by_push h (take m xs) (get_or xs m 0)
      ∙ ap₂ (λ a b. a + b) (by_place h g f xs m (omega arith) (λ i less. same i (omega arith))) (sym (same m (omega arith)))

  module _ (values placed : List ℕ) (long : length values ≡ n) (placed_long : length placed ≡ n) (there : (i : ℕ) → i < n → get_or placed (get_or order i 0) 0 ≡ get_or values i 0) where
    before_one : (xs : List ℕ) (i : ℕ) → length xs ≡ n → i < n → in_point (xs ++ 1 ∷ []) i ≡ get_or xs i 0
    before_one xs i e less = get_or_append_left xs (1 ∷ []) 0 i (omega (arith, e, less))

    pub dot_restored : (v r : Coordinates) → IsReordered p order v r → dot p (placed ++ 1 ∷ []) v ≡ dot p (values ++ 1 ∷ []) r
    dot_restored v r one =
        let P : List ℕ = placed ++ 1 ∷ [] in
        let Q : List ℕ = values ++ 1 ∷ [] in
        let h : ℕ → ℕ = λ k. coordinate v k * in_point P k in
        let wide = order_length in
        let whole : take n (numbers_below n) ≡ numbers_below n = take_all n (numbers_below n) (omega (arith, numbers_length n)) in
        let all : take n order ≡ order = take_all n order (omega (arith, order_length)) in
        let left : sum_by h (numbers_below n) ≡ product_below (in_point P) (coordinate v) n =
        sym (ap (sum_by h) whole) ∙ by_place h (in_point P) (coordinate v) (numbers_below n) n (omega (arith, numbers_length n))
        (λ i less. ap h (sym (numbers_at n i 0 less))) in
        let right : sum_by h order ≡ product_below (in_point Q) (coordinate r) n =
        sym (ap (sum_by h) all) ∙ by_place h (in_point Q) (coordinate r) order n (omega (arith, order_length))
        (λ i less.
        ap₂ (λ a b. a * b) (one.each i (omega (arith, order_length, less)))
        (before_one values i long less ∙ sym (there i less)
        ∙ sym (before_one placed (get_or order i 0) placed_long (order_inside i 0 (omega (arith, order_length, less)))))) in
        let firsts : product_below (in_point P) (coordinate v) n ≡ product_below (in_point Q) (coordinate r) n =
        sym left ∙ sym (sum_by-IsPermutation h (numbers_below n) order is) ∙ right in
        let ends : coordinate v n * in_point P n ≡ coordinate r n * in_point Q n =
        ap₂ (λ a b. a * b) (sym (subst (λ j. coordinate r j ≡ coordinate v j) order_length one.last))
        (get_or_push placed 1 0 n placed_long ∙ sym (get_or_push values 1 0 n long)) in
        dot_product_below p (n + 1) P v one.given (subst (λ m. IsBelow (m + 1) v) order_length one.before)
        ∙ ap (λ k. product_below (in_point P) (coordinate v) k % p) (add-one n)
        ∙ ap (λ x. x % p) (ap₂ (λ a b. a + b) firsts ends)
        ∙ sym (ap (λ k. product_below (in_point Q) (coordinate r) k % p) (add-one n))
        ∙ sym (dot_product_below p (n + 1) Q r one.valid (subst (λ m. IsBelow (m + 1) r) order_length one.within))

    -- what holds of the values of each vector
    pub dots_restored : (P : ℕ → Type 0) (vs rs : List Coordinates) → AreReordered p order vs rs
        → All (λ r. P (dot p (values ++ 1 ∷ []) r)) rs → All (λ v. P (dot p (placed ++ 1 ∷ []) v)) vs
    dots_restored P [] [] are h = All-nil (λ v. P (dot p (placed ++ 1 ∷ []) v))
    dots_restored P [] (r ∷ rs) are h = absurd are
    dots_restored P (v ∷ vs) [] are h = absurd are
    dots_restored P (v ∷ vs) (r ∷ rs) are h =
        All-cons (λ v. P (dot p (placed ++ 1 ∷ []) v)) v vs
        (subst P (sym (dot_restored v r are.0)) (All-head (λ r. P (dot p (values ++ 1 ∷ []) r)) r rs h))
        (dots_restored P vs rs are.1 (All-tail (λ r. P (dot p (values ++ 1 ∷ []) r)) r rs h))

-- ---- lists of them

pub reordered_more : (p : ℕ) (order : List ℕ) (vs rs : List Coordinates) (k : ℕ) (v r : Coordinates) → slice_get vs k ≡ Some v → AreReordered p order (take k vs) rs → IsReordered p order v r → AreReordered p order (take (suc k) vs) (rs ++ r ∷ [])
reordered_more p order [] rs k v r at before here = absurd (none-some v at)
reordered_more p order (w ∷ vs) [] zero v r at before here = (subst (λ x. IsReordered p order x r) (sym (same_Some w v at)) here, tt)
reordered_more p order (w ∷ vs) (q ∷ rs) zero v r at before here = absurd before
reordered_more p order (w ∷ vs) [] (suc k) v r at before here = absurd before
reordered_more p order (w ∷ vs) (q ∷ rs) (suc k) v r at before here = (before.0, reordered_more p order vs rs k v r at before.1 here)

pub all_within : (p : ℕ) (order : List ℕ) (vs rs : List Coordinates) → AreReordered p order vs rs → All (IsBelow (length order + 1)) rs
all_within p order [] [] are = All-nil (IsBelow (length order + 1))
all_within p order [] (r ∷ rs) are = absurd are
all_within p order (v ∷ vs) [] are = absurd are
all_within p order (v ∷ vs) (r ∷ rs) are = All-cons (IsBelow (length order + 1)) r rs are.0.within (all_within p order vs rs are.1)

pub reordered_at : (p : ℕ) (order : List ℕ) (vs rs : List Coordinates) (k : ℕ) (r : Coordinates) → AreReordered p order vs rs → slice_get rs k ≡ Some r → (v : Coordinates) × (slice_get vs k ≡ Some v) × IsReordered p order v r
reordered_at p order vs [] k r are at = absurd (none-some r at)
reordered_at p order [] (q ∷ rs) k r are at = absurd are
reordered_at p order (v ∷ vs) (q ∷ rs) zero r are at = (v, refl, subst (IsReordered p order v) (same_Some q r at) are.0)
reordered_at p order (v ∷ vs) (q ∷ rs) (suc k) r are at = reordered_at p order vs rs k r are.1 at

-- ---- what is gathered

pub gathered_more : {F : Type 0} (value : F → ℕ) (order : List ℕ) (buffer dense new : List F) (i : ℕ) (x : F) → i < length order → get_or order i 0 < length buffer → x ≡ get_or buffer (get_or order i 0) x → new ≡ dense ++ x ∷ []
    → map value dense ≡ map (λ k. get_or (map value buffer) k 0) (take i order) → map value new ≡ map (λ k. get_or (map value buffer) k 0) (take (i + 1) order)
gathered_more value order buffer dense new i x inside there is pushed so_far =
    let f : ℕ → ℕ = λ k. get_or (map value buffer) k 0 in
    ap (map value) pushed ∙ map_push value dense x ∙ ap (λ l. l ++ value x ∷ []) so_far
    ∙ ap (λ n. map f (take i order) ++ n ∷ []) (ap value is ∙ sym (get_or-map value buffer (get_or order i 0) x 0 there))
    ∙ sym (map_push f (take i order) (get_or order i 0)) ∙ ap (map f) (sym (take_more order i 0 inside))

-- a buffer's elements in an order, with the last one after them, are the coordinates in this order
pub gathered_coordinates : (order buffer made : List ℕ) (v r : Coordinates) → made ≡ map (λ k. get_or buffer k 0) (order ++ length order ∷ []) → ((k : ℕ) → get_or buffer k 0 ≡ coordinate v k)
    → ((k : ℕ) → coordinate r k ≡ get_or made k 0) → (i : ℕ) → i < length order + 1 → coordinate r i ≡ coordinate v (get_or (order ++ length order ∷ []) i 0)
gathered_coordinates order buffer made v r is given same i less =
    let f : ℕ → ℕ = λ k. get_or buffer k 0 in
    same i ∙ ap (λ (l : List ℕ). get_or l i 0) is ∙ get_or-map f (order ++ length order ∷ []) i 0 0 (omega (arith, length-append order (length order ∷ []), less))
    ∙ given (get_or (order ++ length order ∷ []) i 0)

pub is_reordered : (p : ℕ) (order : List ℕ) (v r : Coordinates) → ((i : ℕ) → i < length order + 1 → coordinate r i ≡ coordinate v (get_or (order ++ length order ∷ []) i 0))
    → IsBelow (length order + 1) v → IsBelow (length order + 1) r → AreCoordinates p v → AreCoordinates p r → IsReordered p order v r
is_reordered p order v r same before within given valid = record {
  each = λ i less. same i (omega (arith, less)) ∙ ap (coordinate v) (get_or_append_left order (length order ∷ []) 0 i less);
  last = same (length order) (omega arith) ∙ ap (coordinate v) (get_or_push order (length order) 0 (length order) refl);
  before = before;
  within = within;
  given = given;
  valid = valid;
}
