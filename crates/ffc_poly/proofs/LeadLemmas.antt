-- Leading terms of sums of ordered lists.
use Rattle.std.proofs.Common.{◌≡◌, ◌≢◌, ℕ, zero, suc, ◌+◌, ◌*◌, ◌%◌, ◌<◌, ◌≤◌, List, [], ◌∷◌, ◌++◌, length, get_or, drop, set, refl, sym, ap, ap₂, ◌∙◌, subst, inl, inr, arith, mod-eq_of_lt, length-append, add-mul, pos_of_ne-zero, eq-eqb, ne_eqb}
use Rattle.std.proofs.Math.Nat.{zero-mod, mod-mod}
use Rattle.std.proofs.lemmas.Bool.{cases_eq}
use Rattle.std.proofs.lemmas.List.{get_or-set_same, get_or-set_other, length-set}
use Rattle.std.specs.declared.cmp.Ordering.{Ordering}
use Rattle.std.specs.declared.cmp.Ordering.TheVariants.{Greater}
use Rattle.ffc_field.specs.Modular.{add_mod}
use Rattle.ffc_ring.specs.Monomial.{Monomial}
use Rattle.ffc_ring.specs.Polynomial.{Terms, written, coefficient, SamePolynomial, PassesTerms, AreItsMonomials}
use Rattle.ffc_ring.proofs.PolynomialLemmas.{weighted, sum_alike, times_alike, coefficient-append, SamePolynomial-from_weighted, cases_monomial, written-at}
use Rattle.ffc_mono.specs.MonomialOrder.{IsMonomialOrder}
use Rattle.ffc_mono.specs.Leading.{IsLeading}
use Rattle.ffc_mono.proofs.LeadingLemmas.{greater_trans, not_itself}
use Rattle.ffc_poly.specs.Ordered.{sum_of, IsOrdered, kept}
use Rattle.ffc_poly.specs.Tails.{AreOrdered, lead_of, AreEmpty, IsRival, IsTop}
use Rattle.ffc_poly.proofs.Coefficients.{coefficient-none, coefficient-other, above_with, IsLeading-first}
use Rattle.ffc_poly.proofs.Merging.{weighted-kept}
use Rattle.ffc_poly.proofs.TailLemmas.{weighted-set, same_sums_of, AreOrdered-at, AreOrdered-set}

-- a list opens into its first term and the rest
weighted-first : (g : Monomial → ℕ) (x : Terms) → 0 < length x → weighted g x ≡ (get_or x 0 (0, [])).0 * g (get_or x 0 (0, [])).1 + weighted g (drop 1 x)
weighted-first g [] h = absurd (omega arith)
weighted-first g (t ∷ x) h = refl

length-first : (x : Terms) → 0 < length x → length x ≡ suc (length (drop 1 x))
length-first [] h = absurd (omega arith)
length-first (t ∷ x) h = refl

IsOrdered-rest : (p : ℕ) (cmp : Monomial → Monomial → Ordering) (limit : ℕ) (x : Terms) → IsOrdered p cmp limit x → IsOrdered p cmp limit (drop 1 x)
IsOrdered-rest p cmp limit [] v = tt
IsOrdered-rest p cmp limit (t ∷ x) v = v.5

-- another coefficient in front
IsOrdered-first : (p : ℕ) (cmp : Monomial → Monomial → Ordering) (limit s : ℕ) (x : Terms) → 0 < length x → 0 < s → s < p → IsOrdered p cmp limit x → IsOrdered p cmp limit ((s, (get_or x 0 (0, [])).1) ∷ drop 1 x)
IsOrdered-first p cmp limit s [] h f l v = absurd (omega arith)
IsOrdered-first p cmp limit s (t ∷ x) h f l v = (f, l, v.2, v.3, v.4, v.5)

-- the first term with the coefficient s, or without it where s is 0
IsOrdered-kept_first : (p : ℕ) (cmp : Monomial → Monomial → Ordering) (limit s : ℕ) (x : Terms) → 0 < length x → s < p → IsOrdered p cmp limit x → IsOrdered p cmp limit (kept s (get_or x 0 (0, [])).1 (drop 1 x))
IsOrdered-kept_first p cmp limit s x some below v =
    elim (cases_eq s 0) [
      | inl zero_s ↦ rw (eq-eqb s 0 zero_s) (IsOrdered-rest p cmp limit x v)
      | inr other ↦ rw (ne_eqb s 0 other) (IsOrdered-first p cmp limit s x some (pos_of_ne-zero other) below v)
    ]

length-kept_first : (s : ℕ) (m : Monomial) (x : Terms) → 0 < length x → length (kept s m (drop 1 x)) ≤ length x
length-kept_first s m x some =
    elim (cases_eq s 0) [
      | inl zero_s ↦ rw (eq-eqb s 0 zero_s) (omega (arith, length-first x some))
      | inr other ↦ rw (ne_eqb s 0 other) (omega (arith, length-first x some))
    ]

length-exchanged : (xs : List Terms) (i : ℕ) (t : Terms) → i < length xs → length (sum_of (set xs i t)) + length (get_or xs i []) ≡ length (sum_of xs) + length t
length-exchanged [] i t h = absurd (omega arith)
length-exchanged (x ∷ xs) zero t h = omega (arith, length-append t (sum_of xs), length-append x (sum_of xs))
length-exchanged (x ∷ xs) (suc i) t h =
    omega (arith, length-exchanged xs i t (omega arith), length-append x (sum_of (set xs i t)), length-append x (sum_of xs))

-- two first terms merged: the one at j goes, and the one at i has s as its coefficient, or goes where s is 0
module _ (xs : List Terms) (i j : ℕ) (t : Terms) (place : i < length xs) (some : 0 < length (get_or xs i [])) (rival : IsRival xs i j) where
  abbrev y : Terms
  y = drop 1 (get_or xs j [])

  abbrev firsts_merged : List Terms
  firsts_merged = set (set xs j y) i t

  same_place : get_or (set xs j y) i [] ≡ get_or xs i []
  same_place = get_or-set_other xs j i y [] (λ e. rival.1 (sym e))

  low : i < length (set xs j y)
  low = omega (arith, length-set xs j y, place)

  firsts_merged_shorter : length t ≤ length (get_or xs i []) → length (sum_of firsts_merged) < length (sum_of xs)
  firsts_merged_shorter h =
      omega (
        arith,
        length-exchanged xs j y rival.0,
        length-first (get_or xs j []) rival.2,
        length-exchanged (set xs j y) i t low,
        ap length same_place,
        h,
      )

  firsts_merged_weights : (g : Monomial → ℕ) (s : ℕ) → weighted g t ≡ s * g (lead_of xs i) + weighted g (drop 1 (get_or xs i [])) → weighted g (sum_of firsts_merged) + (get_or (get_or xs i []) 0 (0, [])).0 * g (lead_of xs i) + (get_or (get_or xs j []) 0 (0, [])).0 * g (lead_of xs i) ≡ weighted g (sum_of xs) + s * g (lead_of xs i)
  firsts_merged_weights g s e =
      omega (
        arith,
        e,
        weighted-set g xs j y rival.0,
        weighted-first g (get_or xs j []) rival.2,
        ap (λ m. (get_or (get_or xs j []) 0 (0, [])).0 * g m) rival.3,
        weighted-set g (set xs j y) i t low,
        ap (weighted g) same_place,
        weighted-first g (get_or xs i []) some,
      )

  firsts_merged_same : (p s : ℕ) → 0 < p → ((g : Monomial → ℕ) → weighted g t ≡ s * g (lead_of xs i) + weighted g (drop 1 (get_or xs i []))) → s % p ≡ ((get_or (get_or xs i []) 0 (0, [])).0 + (get_or (get_or xs j []) 0 (0, [])).0) % p → SamePolynomial p (sum_of firsts_merged) (sum_of xs)
  firsts_merged_same p s h e f =
      let c : ℕ = (get_or (get_or xs i []) 0 (0, [])).0 in
      let d : ℕ = (get_or (get_or xs j []) 0 (0, [])).0 in
      SamePolynomial-from_weighted p (sum_of firsts_merged) (sum_of xs)
      (λ g.
      same_sums_of p (weighted g (sum_of firsts_merged)) (weighted g (sum_of xs)) (s * g (lead_of xs i)) (c * g (lead_of xs i)) (d * g (lead_of xs i)) h
      (firsts_merged_weights g s (e g))
      (times_alike p s (c + d) (g (lead_of xs i)) f ∙ ap (λ k. k % p) (add-mul c d (g (lead_of xs i)))))

-- The first terms of the lists at i and j, which have one monomial, merged: the lists stay ordered, and their sum is the
-- same with fewer terms.
pub firsts_merged_are : (p : ℕ) (cmp : Monomial → Monomial → Ordering) (limit : ℕ) (xs : List Terms) (i j s : ℕ) (ys zs : List Terms) → AreOrdered p cmp limit xs → i < length xs → 0 < length (get_or xs i []) → IsRival xs i j → s < p → s ≡ add_mod p (get_or (get_or xs i []) 0 (0, [])).0 (get_or (get_or xs j []) 0 (0, [])).0 → ys ≡ set xs j (drop 1 (get_or xs j [])) → zs ≡ set ys i (kept s (lead_of ys i) (drop 1 (get_or ys i []))) → AreOrdered p cmp limit zs × SamePolynomial p (sum_of zs) (sum_of xs) × (length (sum_of zs) < length (sum_of xs))
firsts_merged_are p cmp limit xs i j s ys zs v place some rival below sum first second =
    let x : Terms = get_or xs i [] in
    let y : Terms = drop 1 (get_or xs j []) in
    let t : Terms = kept s (lead_of xs i) (drop 1 x) in
    let both : zs ≡ set (set xs j y) i t =
    second ∙ ap (λ (ws : List Terms). set ws i (kept s (lead_of ws i) (drop 1 (get_or ws i [])))) first
    ∙ ap (λ (w : Terms). set (set xs j y) i (kept s (get_or w 0 (0, [])).1 (drop 1 w))) (same_place xs i j t place some rival) in
    let y_is : IsOrdered p cmp limit y = IsOrdered-rest p cmp limit (get_or xs j []) (AreOrdered-at p cmp limit xs j v rival.0) in
    let t_is : IsOrdered p cmp limit t = IsOrdered-kept_first p cmp limit s x some below (AreOrdered-at p cmp limit xs i v place) in (
      subst (AreOrdered p cmp limit) (sym both) (AreOrdered-set p cmp limit (set xs j y) i t (AreOrdered-set p cmp limit xs j y v y_is) t_is),
      subst (λ ws. SamePolynomial p (sum_of ws) (sum_of xs)) (sym both)
          (firsts_merged_same xs i j t place some rival p s (omega arith) (λ g. weighted-kept g s (lead_of xs i) (drop 1 x)) (ap (λ k. k % p) sum ∙ mod-mod _ p)),
      omega (arith, ap (λ ws. length (sum_of ws)) both, firsts_merged_shorter xs i j t place some rival (length-kept_first s (lead_of xs i) x some)),
    )

-- ---- the leading term
next_place : (p : ℕ) (x : Terms) (xs : List Terms) (n : Monomial) → (k : ℕ) × (k < length xs) × (coefficient p (get_or xs k []) n ≢ 0) → (k : ℕ) × (k < length (x ∷ xs)) × (coefficient p (get_or (x ∷ xs) k []) n ≢ 0)
next_place p x xs n (k, h, some) = (suc k, omega arith, some)

add-none : (x : ℕ) → x + 0 ≡ x
add-none x = omega arith

-- a coefficient of a sum is one of a list
some_of_lists : (p : ℕ) (xs : List Terms) (n : Monomial) → coefficient p (sum_of xs) n ≢ 0 → (k : ℕ) × (k < length xs) × (coefficient p (get_or xs k []) n ≢ 0)
some_of_lists p [] n some = absurd (some (coefficient-none p n))
some_of_lists p (x ∷ xs) n some =
    elim (cases_eq (coefficient p x n) 0) [
      | inl none ↦
          next_place p x xs n
          (some_of_lists p xs n (λ nothing. some (coefficient-append p x (sum_of xs) n ∙ ap₂ (add_mod p) none nothing ∙ ap (λ k. k % p) (omega arith) ∙ zero-mod p)))
      | inr found ↦ (0, omega arith, found)
    ]

pub empty_sum : (xs : List Terms) → AreEmpty xs (length xs) → sum_of xs ≡ []
empty_sum [] h = refl
empty_sum (x ∷ xs) h = ap (λ k. k ++ sum_of xs) (h 0 (omega arith)) ∙ empty_sum xs (λ j l. h (suc j) (omega arith))

leading_same : (p : ℕ) (cmp : Monomial → Monomial → Ordering) (a b : Terms) (c : ℕ) (m : Monomial) → SamePolynomial p a b → IsLeading p cmp a c m → IsLeading p cmp b c m
leading_same p cmp a b c m same l = (sym (same m) ∙ l.0, l.1, λ n some off. l.2 n (λ none. some (sym (same n) ∙ none)) off)

leading_is_some : (p : ℕ) (cmp : Monomial → Monomial → Ordering) (a : Terms) (c : ℕ) (m : Monomial) → IsLeading p cmp a c m → SamePolynomial p a [] → ⊥
leading_is_some p cmp a c m l same = l.1 (sym l.0 ∙ same m ∙ coefficient-none p m)

module _ (p : ℕ) (cmp : Monomial → Monomial → Ordering) (laws : IsMonomialOrder cmp) (limit : ℕ) (xs : List Terms) (i : ℕ) (v : AreOrdered p cmp limit xs) (top : IsTop cmp xs i) where
  abbrev x : Terms
  x = get_or xs i []

  abbrev rest : List Terms
  rest = set xs i (drop 1 x)

  x_is : IsOrdered p cmp limit x
  x_is = AreOrdered-at p cmp limit xs i v top.0

  opened : (y : Terms) → 0 < length y → IsOrdered p cmp limit y → IsLeading p cmp y (get_or y 0 (0, [])).0 (get_or y 0 (0, [])).1
  opened [] h w = absurd (omega arith)
  opened (t ∷ y) h w = IsLeading-first p cmp laws limit t y w

  first_below : (y : Terms) → 0 < length y → IsOrdered p cmp limit y → (get_or y 0 (0, [])).0 < p
  first_below [] h w = absurd (omega arith)
  first_below (t ∷ y) h w = w.1

  -- a monomial of a list is below what is above the list's leading one
  under_lead : (y : Terms) → IsOrdered p cmp limit y → cmp (lead_of xs i) (get_or y 0 (0, [])).1 ≡ Greater → (n : Monomial) → coefficient p y n ≢ 0 → cmp (lead_of xs i) n ≡ Greater
  under_lead [] w above n some = absurd (some (coefficient-none p n))
  under_lead (t ∷ y) w above n some =
      elim (cases_monomial n t.1) [
        | inl same ↦ ap (cmp (lead_of xs i)) same ∙ above
        | inr off ↦ greater_trans cmp laws (lead_of xs i) t.1 n above ((IsLeading-first p cmp laws limit t y w).2 n some off)
      ]

  rest_below : (y : Terms) → 0 < length y → IsOrdered p cmp limit y → (n : Monomial) → coefficient p (drop 1 y) n ≢ 0 → cmp (get_or y 0 (0, [])).1 n ≡ Greater
  rest_below [] h w n some = absurd (omega arith)
  rest_below (t ∷ y) h w n some = above_with p cmp laws limit t.1 y w.4 n some

  below_order : (get_or x 0 (0, [])).0 % p ≡ (get_or x 0 (0, [])).0
  below_order = mod-eq_of_lt (first_below x top.1 x_is)

  other_below : (k : ℕ) → k < length xs → k ≢ i → (n : Monomial) → coefficient p (get_or xs k []) n ≢ 0 → cmp (lead_of xs i) n ≡ Greater
  other_below k h off n some =
      elim (top.2 k h off) [
        | inl empty ↦ absurd (some (ap (λ y. coefficient p y n) empty ∙ coefficient-none p n))
        | inr above ↦ under_lead (get_or xs k []) (AreOrdered-at p cmp limit xs k v h) above n some
      ]

  below_at : (n : Monomial) → (k : ℕ) × (k < length rest) × (coefficient p (get_or rest k []) n ≢ 0) → cmp (lead_of xs i) n ≡ Greater
  below_at n (k, h, some) =
      elim (cases_eq k i) [
        | inl here ↦
            rest_below x top.1 x_is n
            (λ none. some (ap (λ l. coefficient p (get_or rest l []) n) here ∙ ap (λ y. coefficient p y n) (get_or-set_same xs i (drop 1 x) [] top.0) ∙ none))
        | inr off ↦
            other_below k (omega (arith, h, length-set xs i (drop 1 x))) off n
            (λ none. some (ap (λ y. coefficient p y n) (get_or-set_other xs i k (drop 1 x) [] off) ∙ none))
      ]

  -- each monomial of what is left is below
  rest_is_below : (n : Monomial) → coefficient p (sum_of rest) n ≢ 0 → cmp (lead_of xs i) n ≡ Greater
  rest_is_below n some = below_at n (some_of_lists p rest n some)

  whole_is : SamePolynomial p (sum_of xs) ((get_or x 0 (0, [])) ∷ sum_of rest)
  whole_is =
      SamePolynomial-from_weighted p (sum_of xs) ((get_or x 0 (0, [])) ∷ sum_of rest)
      (λ g. ap (λ k. k % p) (omega (arith, weighted-set g xs i (drop 1 x) top.0, weighted-first g x top.1)))

  no_coefficient : coefficient p (sum_of rest) (lead_of xs i) ≡ 0
  no_coefficient =
      elim (cases_eq (coefficient p (sum_of rest) (lead_of xs i)) 0) [
        | inl none ↦ none
        | inr some ↦ absurd (not_itself cmp laws (lead_of xs i) (lead_of xs i) (rest_is_below (lead_of xs i) some) refl)
      ]

  lead_is_leading : IsLeading p cmp (sum_of xs) (get_or x 0 (0, [])).0 (lead_of xs i)
  lead_is_leading =
      let first = opened x top.1 x_is in (
        whole_is (lead_of xs i)
            ∙ ap (λ k. k % p) (written-at (lead_of xs i) (get_or x 0 (0, [])) (sum_of rest) refl)
            ∙ sum_alike p (get_or x 0 (0, [])).0 (get_or x 0 (0, [])).0 (written (sum_of rest) (lead_of xs i)) 0 refl (no_coefficient ∙ sym (zero-mod p))
            ∙ ap (λ k. k % p) (add-none (get_or x 0 (0, [])).0) ∙ below_order,
        first.1,
        λ n some off. rest_is_below n (λ none. some (whole_is n ∙ coefficient-other p (get_or x 0 (0, [])) (sum_of rest) n (λ e. off (sym e)) ∙ none)),
      )

  its : (ms : List Monomial) → AreItsMonomials p (sum_of rest) ms → AreItsMonomials p (sum_of xs) ms
  its [] d = tt
  its (n ∷ ms) d = (
    (λ none.
        let off : n ≢ lead_of xs i = λ e. d.0 (ap (coefficient p (sum_of rest)) e ∙ no_coefficient) in
        d.0 (sym (whole_is n ∙ coefficient-other p (get_or x 0 (0, [])) (sum_of rest) n (λ e. off (sym e))) ∙ none)),
    d.1,
    its ms d.2,
  )

  rest_passes_less : (bound : ℕ) → PassesTerms p bound (sum_of rest) → PassesTerms p bound (sum_of xs)
  rest_passes_less bound (ms, long, d) = (ms, long, its ms d)

  -- the first term of that list leads each polynomial that the sum is, which is not 0
  pub top_leads : (all : Terms) (k : ℕ) (m : Monomial) → SamePolynomial p (sum_of xs) all → (k, m) ≡ get_or x 0 (0, []) → IsLeading p cmp all k m × (SamePolynomial p all [] → ⊥)
  top_leads all k m same e =
      let leading : IsLeading p cmp all k m =
      subst (λ t. IsLeading p cmp all t.0 t.1) (sym e) (leading_same p cmp (sum_of xs) all (get_or x 0 (0, [])).0 (lead_of xs i) same lead_is_leading) in
      (leading, leading_is_some p cmp all k m leading)

  -- without that term the lists are ordered, the term and their sum are the whole, and no more monomials are left
  pub lead_dropped : (ys : List Terms) → ys ≡ rest → AreOrdered p cmp limit ys × SamePolynomial p (sum_of xs) (get_or x 0 (0, []) ∷ sum_of ys) × ((bound : ℕ) → PassesTerms p bound (sum_of ys) → PassesTerms p bound (sum_of xs))
  lead_dropped ys e = (
    subst (AreOrdered p cmp limit) (sym e) (AreOrdered-set p cmp limit xs i (drop 1 x) v (IsOrdered-rest p cmp limit x x_is)),
    λ m. whole_is m ∙ ap (λ zs. written (get_or x 0 (0, []) ∷ sum_of zs) m % p) (sym e),
    λ bound passes. rest_passes_less bound (subst (λ zs. PassesTerms p bound (sum_of zs)) e passes),
  )
