-- Lines of bits: the variables of a line in their order, the values at choices, and the rules in turn.
use Rattle.std.proofs.Common.{◌≡◌, ◌≢◌, ℕ, zero, suc, ◌+◌, ◌*◌, ◌^◌, ◌%◌, ◌<◌, ◌≤◌, ◌==◌, nat_lt, Bool, true, false, not, ◌&&◌, Some, List, [], ◌∷◌, ◌++◌, length, get_or, drop, map, Ok, Err, inl, inr, refl, sym, ap, ap₂, ◌∙◌, subst, arith, append_assoc, mod-eq_of_lt}
use Rattle.std.proofs.Math.Nat.{add-mod-mod, mod-add-mod, pow-suc, pow-zero, mul-zero, zero-mul}
use Rattle.std.specs.Borrow.{Bor}
use Rattle.std.specs.List.{list_all, slice_get, AllByRecursion}
use Rattle.std.specs.declared.cmp.Ordering.{Ordering}
use Rattle.std.specs.declared.cmp.Ordering.TheVariants.{Less, Equal, Greater}
use Rattle.std.specs.Ordering.{nat_cmp, ordering_then}
use Rattle.std.proofs.lemmas.Cmp.{ranked}
use Rattle.std.proofs.lemmas.List.Folds.{list_all-append, list_all-map}
use Rattle.std.proofs.lemmas.Bool.{cond-true, cond-false, cases_Bool, and_parts, and_cases, ltb-false, le-ltb, lt-ltb, eqb-true}
use Rattle.ffc_ring.specs.Monomial.{Monomial, IsMonomialFrom, degree, mono_value, same_monomial}
use Rattle.ffc_ring.proofs.MonomialLemmas.{mono_mul_one}
use Rattle.ffc_ring.proofs.PolynomialLemmas.{same_products}
use Rattle.ffc_ring.specs.Polynomial.{Terms, AreTerms, product, SamePolynomial}
use Rattle.ffc_trees.specs.Normal.{IsNormal, degree_of, normal}
use Rattle.ffc_trees.specs.TreeLines.{limits, line_at, is_there}
use Rattle.ffc_trees.specs.Same.{IsSameLine}
use Rattle.ffc_trees.specs.BitLines.{is_listed, is_among, is_linear_monomial, is_linear, inserted, variables_of, is_bit, choices_of, point_of, is_written_in, is_of_bits, follows, are_choices_within, is_polynomial_within, bits_line}
use Rattle.ffc_trees.proofs.NormalLemmas.{normal_same, normal_is_normal}
use Rattle.ffc_trees.proofs.SameLemmas.{one_length}
use Rattle.ffc_ckpoly.specs.Sorted.{residues, IsAbove, IsSorted, word_order}
use Rattle.ffc_ckpoly.proofs.DegreeLemmas.{AreWithin, within_degree, within_more}
use Rattle.ffc_cktree.specs.Lines.{are_low}
use Rattle.ffc_cktree.proofs.SumLemmas.{low_where_greatest, same_tests, within_test, over_limit}

-- ---- the variables of a line

inserted_last : (x : ℕ) (ys : List ℕ) → AllByRecursion (λ y. y < x) ys → inserted x ys ≡ ys ++ x ∷ []
inserted_last x [] below = refl
inserted_last x (y ∷ ys) below =
    cond-false _ _ _ (le-ltb x y (omega (arith, below.0))) ∙ ap (λ l. y ∷ l) (inserted_last x ys below.1)

below_inserted : (x y : ℕ) (ys : List ℕ) → y < x → AllByRecursion (λ z. z < x) ys → AllByRecursion (λ z. z < x) (inserted y ys)
below_inserted x y [] h below = (h, tt)
below_inserted x y (z ∷ ys) h below =
    elim (cases_Bool (nat_lt y z)) [
      | inl first ↦ subst (AllByRecursion (λ k. k < x)) (sym (cond-true _ _ _ first)) (h, below)
      | inr later ↦ subst (AllByRecursion (λ k. k < x)) (sym (cond-false _ _ _ later)) (below.0, below_inserted x y ys h below.1)
    ]

greater_variable : (f g : ℕ × ℕ) → f.1 ≡ 1 → g.1 ≡ 1 → (o : Ordering) → o ≡ nat_cmp f.0 g.0 → (r : Ordering) → r ≡ nat_cmp f.1 g.1 → ordering_then (ordering_then o r) Equal ≡ Greater → g.0 < f.0
greater_variable f g a b Less is r also e = cc
greater_variable f g a b Greater is r also e = ranked f.0 g.0 Greater is
greater_variable f g a b Equal is Less also e = cc
greater_variable f g a b Equal is Equal also e = cc
greater_variable f g a b Equal is Greater also e = absurd (omega (arith, ranked f.1 g.1 Greater also, a, b))

variables_below : (f : ℕ × ℕ) (ts : Terms) → f.1 ≡ 1 → IsAbove word_order (f ∷ []) ts → is_linear ts ≡ true → AllByRecursion (λ y. y < f.0) (variables_of ts)
variables_below f [] one above linear = tt
variables_below f ((c, []) ∷ ts) one above linear = variables_below f ts one above.1 (and_parts true (is_linear ts) linear).1
variables_below f ((c, g ∷ []) ∷ ts) one above linear =
    let parts = and_parts (g.1 == 1) (is_linear ts) linear in
    let lower : g.0 < f.0 = greater_variable f g one (eqb-true g.1 1 parts.0) (nat_cmp f.0 g.0) refl (nat_cmp f.1 g.1) refl above.0 in
    below_inserted f.0 g.0 (variables_of ts) lower (variables_below f ts one above.1 parts.1)
variables_below f ((c, g ∷ h ∷ m) ∷ ts) one above linear = cc

pub next_variable : (p c : ℕ) (f : ℕ × ℕ) (ts : Terms) → IsSorted p ((c, f ∷ []) ∷ ts) → is_linear ((c, f ∷ []) ∷ ts) ≡ true → variables_of ((c, f ∷ []) ∷ ts) ≡ variables_of ts ++ f.0 ∷ []
next_variable p c f ts sorted linear =
    let parts = and_parts (f.1 == 1) (is_linear ts) linear in
    inserted_last f.0 (variables_of ts) (variables_below f ts (eqb-true f.1 1 parts.0) sorted.4 parts.1)

pub next_from : (p c : ℕ) (m : Monomial) (f : ℕ × ℕ) (ts : Terms) → Some f ≡ slice_get m 0 → IsSorted p ((c, m) ∷ ts) → is_linear ((c, m) ∷ ts) ≡ true → variables_of ((c, m) ∷ ts) ≡ variables_of ts ++ f.0 ∷ []
next_from p c [] f ts e sorted linear = cc
next_from p c (g ∷ []) f ts e sorted linear =
    let same : f ≡ g = cc in next_variable p c g ts sorted linear ∙ ap (λ (h : ℕ × ℕ). variables_of ts ++ h.0 ∷ []) (sym same)
next_from p c (g ∷ h ∷ m) f ts e sorted linear = cc

pub linear_drop : {F : Type 0} (value : F → ℕ) (n : ℕ) (ts : List (F × Bor Monomial)) → is_linear (residues value ts) ≡ true → is_linear (residues value (drop n ts)) ≡ true
linear_drop value zero ts h = h
linear_drop value (suc n) [] h = refl
linear_drop value (suc n) (t ∷ ts) h = linear_drop value n ts (and_parts (is_linear_monomial t.1.now) (is_linear (residues value ts)) h).1

-- ---- bits

fails_last : (a b : Bool) → (a && b && false) ≡ false
fails_last true true = refl
fails_last true false = refl
fails_last false b = refl

pub longer_monomial : (m : Monomial) (x e : ℕ) → 2 ≤ length m → false ≡ same_monomial m ((x, e) ∷ [])
longer_monomial [] x e h = absurd (omega arith)
longer_monomial (f ∷ []) x e h = absurd (omega arith)
longer_monomial (f ∷ g ∷ m) x e h = sym (fails_last (f.0 == x) (f.1 == e))

pub two_of : {A : Type 0} (xs : List A) (t u : A) → 2 ≤ length xs → length xs < 3 → t ≡ get_or xs 0 t → u ≡ get_or xs 1 u → xs ≡ t ∷ u ∷ []
two_of [] t u h g e f = absurd (omega arith)
two_of (x ∷ []) t u h g e f = absurd (omega arith)
two_of (x ∷ y ∷ []) t u h g e f = ap₂ (λ a b. a ∷ b ∷ []) (sym e) (sym f)
two_of (x ∷ y ∷ z ∷ xs) t u h g e f = absurd (omega arith)

pub not_two : (p x : ℕ) (ts : Terms) → length ts ≢ 2 → false ≡ is_bit p x ts
not_two p x [] h = refl
not_two p x (t ∷ []) h = refl
not_two p x (t ∷ u ∷ []) h = absurd (h refl)
not_two p x (t ∷ u ∷ v ∷ ts) h = refl

-- ---- the written terms as a polynomial

product_one : (ts : Terms) → AreTerms ts → product ts ((1, []) ∷ []) ≡ ts
product_one [] are = refl
product_one (t ∷ ts) are =
    ap₂ (λ (u : ℕ × Monomial) (us : Terms). u ∷ us) (ap₂ (λ (c : ℕ) (m : Monomial). (c, m)) (let same : t.0 * 1 ≡ t.0 = omega arith in same) (mono_mul_one t.1 are.0)) (product_one ts are.1)

pub times_one : (p : ℕ) (ts f : Terms) → AreTerms ts → SamePolynomial p f ((1, []) ∷ []) → SamePolynomial p (product ts f) ts
times_one p ts f are h = subst (SamePolynomial p (product ts f)) (product_one ts are) (same_products p ts ts f ((1, []) ∷ []) (λ m. refl) h)

pub low_degree : (ts : Terms) → are_low ts ≡ true → degree_of ts ≤ 1024
low_degree ts h = ltb-false 1024 (degree_of ts) (is_not (nat_lt 1024 (degree_of ts)) (low_where_greatest (λ t. degree t.1) 1024 0 ts (omega arith) ∙ h))
  where
    is_not : (b : Bool) → not b ≡ true → b ≡ false
    is_not true e = cc
    is_not false e = refl

pub low_within : (ts : Terms) → are_low ts ≡ true → AreWithin 1024 ts
low_within ts h = within_more (degree_of ts) 1024 ts (low_degree ts h) (within_degree ts)

-- ---- values at choices

point_one : (ones : List ℕ) (x e : ℕ) → is_listed ones x ≡ true → point_of ones x ^ e ≡ 1
point_one ones x zero h = pow-zero (point_of ones x)
point_one ones x (suc e) h =
    let one : point_of ones x ≡ 1 = cond-true _ _ _ h in
    pow-suc (point_of ones x) e ∙ ap₂ (λ a b. a * b) (point_one ones x e h) one

point_zero : (ones : List ℕ) (x e : ℕ) → 1 ≤ e → is_listed ones x ≡ false → point_of ones x ^ e ≡ 0
point_zero ones x zero some h = absurd (omega arith)
point_zero ones x (suc e) some h =
    let none : point_of ones x ≡ 0 = cond-false _ _ _ h in
    pow-suc (point_of ones x) e ∙ ap (λ a. point_of ones x ^ e * a) none ∙ mul-zero (point_of ones x ^ e)

monomial_one : (ones : List ℕ) (low : ℕ) (m : Monomial) → IsMonomialFrom low m → is_among ones m ≡ true → mono_value (point_of ones) m ≡ 1
monomial_one ones low [] is h = refl
monomial_one ones low (f ∷ m) is h =
    let parts = and_parts (is_listed ones f.0) (is_among ones m) h in
    ap₂ (λ a b. a * b) (point_one ones f.0 f.1 parts.0) (monomial_one ones (suc f.0) m is.2 parts.1)

monomial_zero : (ones : List ℕ) (low : ℕ) (m : Monomial) → IsMonomialFrom low m → is_among ones m ≡ false → mono_value (point_of ones) m ≡ 0
monomial_zero ones low [] is h = cc
monomial_zero ones low (f ∷ m) is h =
    elim (and_cases (is_listed ones f.0) (is_among ones m) h) [
      | inl none ↦ ap (λ a. a * mono_value (point_of ones) m) (point_zero ones f.0 f.1 is.1 none) ∙ zero-mul (mono_value (point_of ones) m)
      | inr none ↦ ap (λ a. point_of ones f.0 ^ f.1 * a) (monomial_zero ones (suc f.0) m is.2 none) ∙ mul-zero (point_of ones f.0 ^ f.1)
    ]

-- the value with a term more that is its coefficient at the choice, and with one that is 0
module _ (p c : ℕ) (ones : List ℕ) (m : Monomial) (old rest all : ℕ) (is : IsMonomialFrom 0 m) (so_far : (old + (c * mono_value (point_of ones) m + rest)) % p ≡ all) where
  pub value_taken : (k : ℕ) → is_among ones m ≡ true → k ≡ (old + c % p) % p → (k + rest) % p ≡ all
  value_taken k here e =
      let one : mono_value (point_of ones) m ≡ 1 = monomial_one ones 0 m is here in
      ap (λ j. (j + rest) % p) (e ∙ add-mod-mod old c p) ∙ mod-add-mod (old + c) p rest
      ∙ ap (λ j. j % p) (let same : old + c + rest ≡ old + (c * 1 + rest) = omega arith in same)
      ∙ ap (λ j. (old + (c * j + rest)) % p) (sym one) ∙ so_far

  pub value_left : is_among ones m ≡ false → (old + rest) % p ≡ all
  value_left gone =
      let none : mono_value (point_of ones) m ≡ 0 = monomial_zero ones 0 m is gone in
      ap (λ j. j % p) (let same : old + rest ≡ old + (c * 0 + rest) = omega arith in same)
      ∙ ap (λ j. (old + (c * j + rest)) % p) (sym none) ∙ so_far

pub with_choice : (f : List ℕ → Bool) (x : ℕ) (xs : List ℕ) → list_all f (choices_of (x ∷ xs)) ≡ (list_all f (choices_of xs) && list_all (λ ones. f (x ∷ ones)) (choices_of xs))
with_choice f x xs =
    list_all-append f (choices_of xs) (map (λ ones. x ∷ ones) (choices_of xs))
    ∙ ap (λ b. list_all f (choices_of xs) && b) (list_all-map f (λ ones. x ∷ ones) (choices_of xs))

-- the choices with x after those without it
pub choices_after : (f : List ℕ → Bool) (ones : List ℕ) (x : ℕ) (xs all : List ℕ) → all ≡ x ∷ xs → true ≡ list_all (λ more. f (ones ++ more)) (choices_of xs)
    → list_all (λ more. f ((ones ++ x ∷ []) ++ more)) (choices_of xs) ≡ list_all (λ more. f (ones ++ more)) (choices_of all)
choices_after f ones x xs all is h =
    same_tests (λ more. f ((ones ++ x ∷ []) ++ more)) (λ more. f (ones ++ x ∷ more)) (choices_of xs) (λ more. ap f (append_assoc ones (x ∷ []) more))
    ∙ ap (λ b. b && list_all (λ more. f (ones ++ x ∷ more)) (choices_of xs)) h
    ∙ sym (with_choice (λ more. f (ones ++ more)) x xs)
    ∙ ap (λ (l : List ℕ). list_all (λ more. f (ones ++ more)) (choices_of l)) (sym is)

-- ---- two opposite elements

pub opposite : (p v w k : ℕ) → v < p → v ≢ 0 → k ≡ (v + w) % p → (k == 0) ≡ (nat_lt 0 (v % p) && ((v + w) % p == 0))
opposite p v w k below some e =
    let stays : v % p ≡ v = mod-eq_of_lt below in
    ap (λ j. j == 0) e ∙ ap (λ b. b && ((v + w) % p == 0)) (sym (lt-ltb 0 (v % p) (omega (arith, stays))))

-- ---- the rules in turn

module _ (p : ℕ) (lines : List Terms) (k : ℕ) (chosen : List ℕ) (written : Terms) (bits : List ℕ) where
  abbrev there : Bool
  there = is_there lines k && list_all (is_there lines) bits

  pub no_line : length lines ≤ k → bits_line limits p lines k chosen written bits ≡ Err 12
  unfolding bits_line
  no_line h = cond-true _ _ _ (ap (λ b. not (b && list_all (is_there lines) bits)) (le-ltb k (length lines) h))

  module _ (within : k < length lines) where
    pub no_bit : false ≡ list_all (is_there lines) bits → bits_line limits p lines k chosen written bits ≡ Err 12
    unfolding bits_line
    no_bit e = cond-true _ _ _ (ap₂ (λ a b. not (a && b)) (lt-ltb k (length lines) within) (sym e))

    module _ (e : true ≡ list_all (is_there lines) bits) where
      all_there : there ≡ true
      all_there = ap₂ (λ a b. a && b) (lt-ltb k (length lines) within) (sym e)

      pub many_choices : false ≡ are_choices_within limits (line_at lines k) chosen written → bits_line limits p lines k chosen written bits ≡ Err 11
      unfolding bits_line
      many_choices f = cond-false _ _ _ (ap not all_there) ∙ cond-true _ _ _ (ap not (sym f))

      module _ (few : true ≡ are_choices_within limits (line_at lines k) chosen written) where
        pub large : is_polynomial_within limits p written ≡ false → bits_line limits p lines k chosen written bits ≡ Err 11
        unfolding bits_line
        large f = cond-false _ _ _ (ap not all_there) ∙ cond-false _ _ _ (ap not (sym few)) ∙ cond-true _ _ _ (ap not f)

        module _ (fits : is_polynomial_within limits p written ≡ true) where
          pub not_written : false ≡ is_written_in p chosen written → bits_line limits p lines k chosen written bits ≡ Err 13
          unfolding bits_line
          not_written f = cond-false _ _ _ (ap not all_there) ∙ cond-false _ _ _ (ap not (sym few)) ∙ cond-false _ _ _ (ap not fits) ∙ cond-true _ _ _ (ap not (sym f))

          module _ (in_chosen : true ≡ is_written_in p chosen written) where
            abbrev of_bits : Bool
            of_bits = is_of_bits p lines (line_at lines k) bits

            after_tests : (of_bits && follows p (line_at lines k) chosen written) ≡ false → bits_line limits p lines k chosen written bits ≡ Err 13
            unfolding bits_line
            after_tests f =
                cond-false _ _ _ (ap not all_there) ∙ cond-false _ _ _ (ap not (sym few)) ∙ cond-false _ _ _ (ap not fits) ∙ cond-false _ _ _ (ap not (sym in_chosen))
                ∙ elim (cases_Bool of_bits) [
                  | inl bound ↦ cond-false _ _ _ (ap not bound) ∙ cond-true _ _ _ (ap not (sym (ap (λ b. b && follows p (line_at lines k) chosen written) bound) ∙ f))
                  | inr other ↦ cond-true _ _ _ (ap not other)
                ]

            pub not_shown : false ≡ (of_bits && follows p (line_at lines k) chosen written) → bits_line limits p lines k chosen written bits ≡ Err 13
            not_shown f = after_tests (sym f)

            pub shown : true ≡ (of_bits && follows p (line_at lines k) chosen written) → bits_line limits p lines k chosen written bits ≡ Ok (normal p written)
            unfolding bits_line
            shown f =
                let parts = and_parts of_bits (follows p (line_at lines k) chosen written) (sym f) in
                cond-false _ _ _ (ap not all_there) ∙ cond-false _ _ _ (ap not (sym few)) ∙ cond-false _ _ _ (ap not fits) ∙ cond-false _ _ _ (ap not (sym in_chosen))
                ∙ cond-false _ _ _ (ap not parts.0) ∙ cond-false _ _ _ (ap not parts.1)

-- the polynomial as a line
pub written_line : (p : ℕ) (written r : Terms) → 0 < p → IsNormal p r → SamePolynomial p r written → IsSameLine p r (normal p written)
written_line p written r some n h = record {
  one = n;
  other = normal_is_normal p written some;
  same = λ m. h m ∙ sym (normal_same p written m);
}

-- the written terms are within the limits where each degree is, and the polynomial is not too long
low_part : (written : Terms) → not (nat_lt 1024 (degree_of written)) ≡ are_low written
low_part written = low_where_greatest (λ t. degree t.1) 1024 0 written (omega arith)

pub written_high : (p : ℕ) (written : Terms) → false ≡ are_low written → is_polynomial_within limits p written ≡ false
written_high p written e = ap (λ b. b && not (nat_lt 131072 (length (normal p written)))) (low_part written ∙ sym e)

module _ (p : ℕ) (written r : Terms) (some : 0 < p) (line : IsSameLine p r (normal p written)) where
  pub written_fits : true ≡ are_low written → length r ≤ 131072 → is_polynomial_within limits p written ≡ true
  written_fits e n =
      ap₂ (λ a b. a && b) (low_part written ∙ sym e) (within_test 131072 (length (normal p written)) (omega (arith, n, one_length p r (normal p written) some line)))

  pub written_long : true ≡ are_low written → 131072 < length r → is_polynomial_within limits p written ≡ false
  written_long e n =
      ap₂ (λ a b. a && b) (low_part written ∙ sym e) (sym (over_limit 131072 (length (normal p written)) (omega (arith, n, one_length p r (normal p written) some line))))
