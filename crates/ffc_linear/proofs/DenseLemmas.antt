-- Multiples of a polynomial's coefficients in the columns of its monomials.
use Rattle.std.proofs.Common.{inl, inr, ◌≡◌, ◌≢◌, ℕ, ◌+◌, ◌-◌, ◌*◌, ◌%◌, ◌<◌, ◌≤◌, List, [], ◌∷◌, ◌++◌, length, map, take, get_or, set, replicate, Option, Some, None, refl, sym, ap, ap₂, ◌∙◌, subst, arith, mod-eq_of_lt, mul-zero, mul-add}
use Rattle.std.proofs.Math.Nat.{mod-mod}
use Rattle.std.proofs.lemmas.Bool.{cases_eq}
use Rattle.std.proofs.lemmas.List.{get_or-set_same, get_or-set_other, get_or-map, map-set, length-map, take_all, take_more}
use Rattle.std.proofs.lemmas.Option.{same_Some, none-some}
use Rattle.ffc_echelon.proofs.Buffers.{get_or-zeros, map-zeros}
use Rattle.ffc_field.specs.Modular.{add_mod, mul_mod}
use Rattle.ffc_ring.specs.Monomial.{Monomial}
use Rattle.ffc_ring.specs.Polynomial.{Terms, written, coefficient, scaled, difference}
use Rattle.ffc_ring.proofs.PolynomialLemmas.{written-at, written-off, written-append, written-scaled, sum_alike}
use Rattle.ffc_linear.specs.Affine.{monomial_column}
use Rattle.ffc_linear.proofs.ColumnLemmas.{one_column}

-- in each column that a monomial has is what was there before and a multiple of what is written for the monomial
abbrev pub IsSum : ℕ → List ℕ → List ℕ → ℕ → Terms → List ℕ → Type 0
IsSum p ids before scale ts after = (m : Monomial) (k : ℕ) → monomial_column ids m ≡ Some k → get_or after k 0 ≡ (get_or before k 0 + scale * written ts m) % p

pub sum_of_none : (p : ℕ) (ids before : List ℕ) (scale : ℕ) → ((k : ℕ) → get_or before k 0 < p) → IsSum p ids before scale [] before
sum_of_none p ids before scale below m k at =
    let same : get_or before k 0 ≡ get_or before k 0 + scale * 0 = omega (arith, mul-zero scale) in
    sym (mod-eq_of_lt (below k)) ∙ ap (λ x. x % p) same

pub sum_of_all : (p : ℕ) (ids before : List ℕ) (scale : ℕ) (all : Terms) (i : ℕ) (after : List ℕ) → length all ≤ i → IsSum p ids before scale (take i all) after → IsSum p ids before scale all after
sum_of_all p ids before scale all i after past sum_is = subst (λ ts. IsSum p ids before scale ts after) (take_all i all past) sum_is

-- what is written with one more term
written_here : (ts : Terms) (c : ℕ) (n m : Monomial) → n ≡ m → written (ts ++ (c, n) ∷ []) m ≡ written ts m + c
written_here ts c n m same =
    let last : written ((c, n) ∷ []) m ≡ c + 0 = written-at m (c, n) [] same in
    omega (arith, written-append ts ((c, n) ∷ []) m, last)

written_elsewhere : (ts : Terms) (c : ℕ) (n m : Monomial) → n ≢ m → written (ts ++ (c, n) ∷ []) m ≡ written ts m
written_elsewhere ts c n m other =
    let last : written ((c, n) ∷ []) m ≡ 0 = written-off m (c, n) [] other in
    omega (arith, written-append ts ((c, n) ∷ []) m, last)

module _ (p : ℕ) (ids before : List ℕ) (scale : ℕ) (ts : Terms) (c : ℕ) (n : Monomial) (after : List ℕ) (sum_is : IsSum p ids before scale ts after) where
  -- a term of no column
  sum_without : monomial_column ids n ≡ None → IsSum p ids before scale (ts ++ (c, n) ∷ []) after
  sum_without none m k at =
      let other : n ≢ m = λ e. none-some k (sym none ∙ ap (monomial_column ids) e ∙ at) in
      sum_is m k at ∙ ap (λ w. (get_or before k 0 + scale * w) % p) (sym (written_elsewhere ts c n m other))

  -- a term of a column
  sum_with : (j x : ℕ) → monomial_column ids n ≡ Some j → j < length after → x ≡ add_mod p (get_or after j 0) (mul_mod p scale c) → IsSum p ids before scale (ts ++ (c, n) ∷ []) (set after j x)
  sum_with j x column inside more m k at =
      elim (cases_eq k j) as (λ _. get_or (set after j x) k 0 ≡ (get_or before k 0 + scale * written (ts ++ (c, n) ∷ []) m) % p) [
        | inl here ↦
            let one : n ≡ m = one_column ids n m k (column ∙ ap Some (sym here)) at in
            let so_far : get_or after j 0 ≡ (get_or before k 0 + scale * written ts m) % p = ap (λ i. get_or after i 0) (sym here) ∙ sum_is m k at in
            let all : get_or before k 0 + scale * written ts m + scale * c ≡ get_or before k 0 + scale * (written ts m + c) = omega (arith, mul-add scale (written ts m) c) in
            ap (λ i. get_or (set after j x) i 0) here ∙ get_or-set_same after j x 0 inside ∙ more
            ∙ sum_alike p (get_or after j 0) (get_or before k 0 + scale * written ts m) (mul_mod p scale c) (scale * c) (ap (λ y. y % p) so_far ∙ mod-mod (get_or before k 0 + scale * written ts m) p) (mod-mod (scale * c) p)
            ∙ ap (λ y. y % p) all
            ∙ ap (λ w. (get_or before k 0 + scale * w) % p) (sym (written_here ts c n m one))
        | inr elsewhere ↦
            let other : n ≢ m = λ e. elsewhere (same_Some k j (sym at ∙ ap (monomial_column ids) (sym e) ∙ column)) in
            get_or-set_other after j k x 0 elsewhere ∙ sum_is m k at
            ∙ ap (λ w. (get_or before k 0 + scale * w) % p) (sym (written_elsewhere ts c n m other))
      ]

-- one more term of a polynomial
module _ {F : Type 0} (value : F → ℕ) (p : ℕ) (ids before : List ℕ) (scale : ℕ) (all : Terms) (i : ℕ) (c : F) (m n : Monomial) (column : Option ℕ) (xs : List F)
    (inside : i < length all) (first : value c ≡ (get_or all i (0, [])).0) (second : m ≡ (get_or all i (0, [])).1) (powers : n ≡ m) (column_is : column ≡ monomial_column ids n)
    (sum_is : IsSum p ids before scale (take i all) (map value xs)) where
  next_terms : take (i + 1) all ≡ take i all ++ (value c, n) ∷ []
  next_terms = take_more all i (0, []) inside ∙ ap (λ t. take i all ++ t ∷ []) (ap₂ (λ a b. (a, b)) (sym first) (sym (powers ∙ second)))

  pub next_without : (ys : List F) → column ≡ None → ys ≡ xs → IsSum p ids before scale (take (i + 1) all) (map value ys)
  next_without ys none same =
      subst (λ zs. IsSum p ids before scale (take (i + 1) all) (map value zs)) (sym same)
      (subst (λ ts. IsSum p ids before scale ts (map value xs)) (sym next_terms)
      (sum_without p ids before scale (take i all) (value c) n (map value xs) sum_is (sym column_is ∙ none)))

  pub next_with : (ys : List F) (j : ℕ) (x y : F) → column ≡ Some j → j < length xs → x ≡ get_or xs j x → value y ≡ add_mod p (value x) (mul_mod p scale (value c)) → ys ≡ set xs j y
      → IsSum p ids before scale (take (i + 1) all) (map value ys)
  next_with ys j x y some within is more next =
      let read : get_or (map value xs) j 0 ≡ value x = get_or-map value xs j x 0 within ∙ ap value (sym is) in
      subst (λ zs. IsSum p ids before scale (take (i + 1) all) zs) (sym (ap (map value) next ∙ map-set value xs j y))
      (subst (λ ts. IsSum p ids before scale ts (set (map value xs) j (value y))) (sym next_terms)
      (sum_with p ids before scale (take i all) (value c) n (map value xs) sum_is j (value y) (sym column_is ∙ some) (omega (arith, within, length-map xs value))
      (more ∙ ap (λ z. add_mod p z (mul_mod p scale (value c))) (sym read))))

-- an empty vector that is filled up with 0
pub filled_with_zeros : {F : Type 0} (value : F → ℕ) (count used : ℕ) (z : F) (empty grown start : List F) → value z ≡ 0 → empty ≡ [] → used ≡ 0 → grown ≡ take count empty ++ replicate (count - used) z → start ≡ grown
    → (k : ℕ) → get_or (map value start) k 0 ≡ 0
filled_with_zeros value count used z empty grown start none nothing unused filled same k =
    let room : count - used ≡ count = omega (arith, unused) in
    ap (λ l. get_or (map value l) k 0)
    (same ∙ filled ∙ ap (λ l. take count l ++ replicate (count - used) z) nothing ∙ ap (λ l. l ++ replicate (count - used) z) (take_all count [] (omega arith)) ∙ ap (λ j. replicate j z) room)
    ∙ ap (λ l. get_or l k 0) (map-zeros value count z none) ∙ get_or-zeros count k

-- once one polynomial and -1 times another are added to zeros, their difference is in the columns
pub difference_in_columns : (p : ℕ) (ids zeros half whole : List ℕ) (a b : Terms) → ((k : ℕ) → get_or zeros k 0 ≡ 0) → IsSum p ids zeros 1 a half → IsSum p ids half (p - 1) b whole
    → (m : Monomial) (k : ℕ) → monomial_column ids m ≡ Some k → get_or whole k 0 ≡ coefficient p (difference p a b) m
difference_in_columns p ids zeros half whole a b none first second m k at =
    let start : get_or zeros k 0 + 1 * written a m ≡ written a m = omega (arith, none k) in
    let here : get_or half k 0 % p ≡ written a m % p = ap (λ x. x % p) (first m k at ∙ ap (λ x. x % p) start) ∙ mod-mod (written a m) p in
    second m k at
    ∙ sum_alike p (get_or half k 0) (written a m) ((p - 1) * written b m) ((p - 1) * written b m) here refl
    ∙ ap (λ x. x % p) (sym (written-append a (scaled (p - 1) b) m ∙ ap (λ x. written a m + x) (written-scaled (p - 1) b m)))
