-- Two normal lists of one polynomial have the same terms, in some order: so the same number of them, the same degree and
-- the same coefficients in one variable.
use Rattle.std.proofs.Common.{◌≡◌, ◌≢◌, ℕ, suc, ◌+◌, ◌%◌, ◌<◌, max, Bool, true, false, ◌&&◌, ◌==◌, nat_lt, [], ◌∷◌, length, fold, refl, sym, ap, ap₂, ◌∙◌, inl, inr, arith, eqb-true}
use Rattle.std.proofs.Math.Nat.{zero-mod, mod-eq_of_lt}
use Rattle.std.proofs.lemmas.Bool.{cond-true, cond-false, false_from_ne_true}
use Rattle.std.specs.List.{list_all}
use Rattle.ffc_ring.specs.Monomial.{Monomial, degree}
use Rattle.ffc_ring.specs.Polynomial.{Terms, SamePolynomial, IsNoneOf, written}
use Rattle.ffc_ring.proofs.PolynomialLemmas.{without, written-at, written-off, cases_monomial, same_monomial-equal, same_monomial-other}
use Rattle.ffc_uni.specs.Univariate.{Coefficients, plus}
use Rattle.ffc_uni.specs.Rows.{shifted}
use Rattle.ffc_trees.specs.Normal.{IsNormal, monomials_of, degree_of}
use Rattle.ffc_trees.specs.TreeLines.{is_power, is_in, coefficients_of, is_nonzero_constant}
use Rattle.ffc_trees.specs.Same.{IsSameLine}

without-here : (m : Monomial) (t : ℕ × Monomial) (ts : Terms) → t.1 ≡ m → without m (t ∷ ts) ≡ without m ts
without-here m t ts e = cond-true _ _ _ (same_monomial-equal t.1 m e)

without-there : (m : Monomial) (t : ℕ × Monomial) (ts : Terms) → t.1 ≢ m → without m (t ∷ ts) ≡ t ∷ without m ts
without-there m t ts e = cond-false _ _ _ (same_monomial-other t.1 m e)

none_written : (m : Monomial) (ts : Terms) → IsNoneOf (monomials_of ts) m → written ts m ≡ 0
none_written m [] none = refl
none_written m (t ∷ ts) none = written-off m t ts none.0 ∙ none_written m ts none.1

none_without : (m : Monomial) (ts : Terms) → IsNoneOf (monomials_of ts) m → without m ts ≡ ts
none_without m [] none = refl
none_without m (t ∷ ts) none = without-there m t ts none.0 ∙ ap (λ xs. t ∷ xs) (none_without m ts none.1)

written-without_here : (m : Monomial) (ts : Terms) → written (without m ts) m ≡ 0
written-without_here m [] = refl
written-without_here m (t ∷ ts) =
    elim (cases_monomial t.1 m) as (λ _. written (without m (t ∷ ts)) m ≡ 0) [
      | inl here ↦ rw (without-here m t ts here) (written-without_here m ts)
      | inr there ↦ rw (without-there m t ts there) (written-off m t (without m ts) there ∙ written-without_here m ts)
    ]

still : (m n : Monomial) (t : ℕ × Monomial) (ts : Terms) → written (without m ts) n ≡ written ts n → written (t ∷ without m ts) n ≡ written (t ∷ ts) n
still m n t ts e =
    elim (cases_monomial t.1 n) as (λ _. written (t ∷ without m ts) n ≡ written (t ∷ ts) n) [
      | inl here ↦ written-at n t (without m ts) here ∙ ap (λ k. t.0 + k) e ∙ sym (written-at n t ts here)
      | inr there ↦ written-off n t (without m ts) there ∙ e ∙ sym (written-off n t ts there)
    ]

written-without_there : (m n : Monomial) (ts : Terms) → m ≢ n → written (without m ts) n ≡ written ts n
written-without_there m n [] other = refl
written-without_there m n (t ∷ ts) other =
    elim (cases_monomial t.1 m) as (λ _. written (without m (t ∷ ts)) n ≡ written (t ∷ ts) n) [
      | inl here ↦ rw (without-here m t ts here) (written-without_there m n ts other ∙ sym (written-off n t ts (λ e. other (sym here ∙ e))))
      | inr there ↦ rw (without-there m t ts there) (still m n t ts (written-without_there m n ts other))
    ]

none_of-without : (m n : Monomial) (ts : Terms) → IsNoneOf (monomials_of ts) n → IsNoneOf (monomials_of (without m ts)) n
none_of-without m n [] none = tt
none_of-without m n (t ∷ ts) none =
    elim (cases_monomial t.1 m) as (λ _. IsNoneOf (monomials_of (without m (t ∷ ts))) n) [
      | inl here ↦ rw (without-here m t ts here) (none_of-without m n ts none.1)
      | inr there ↦ rw (without-there m t ts there) (none.0, none_of-without m n ts none.1)
    ]

normal-without : (p : ℕ) (m : Monomial) (ts : Terms) → IsNormal p ts → IsNormal p (without m ts)
normal-without p m [] is = tt
normal-without p m (t ∷ ts) is =
    elim (cases_monomial t.1 m) as (λ _. IsNormal p (without m (t ∷ ts))) [
      | inl here ↦ rw (without-here m t ts here) (normal-without p m ts is.3)
      | inr there ↦ rw (without-there m t ts there) (is.0, is.1, none_of-without m t.1 ts is.2, normal-without p m ts is.3)
    ]

-- the first coefficient is the one of its monomial
head_written : (p : ℕ) (t : ℕ × Monomial) (ts : Terms) → IsNormal p (t ∷ ts) → written (t ∷ ts) t.1 ≡ t.0
head_written p t ts is = written-at t.1 t ts refl ∙ ap (λ k. t.0 + k) (none_written t.1 ts is.2) ∙ omega arith

written_below : (p : ℕ) (m : Monomial) (ts : Terms) → 0 < p → IsNormal p ts → written ts m < p
written_below p m [] positive is = positive
written_below p m (t ∷ ts) positive is =
    elim (cases_monomial t.1 m) as (λ _. written (t ∷ ts) m < p) [
      | inl here ↦ rw (ap (written (t ∷ ts)) (sym here) ∙ head_written p t ts is) is.1
      | inr there ↦ rw (written-off m t ts there) (written_below p m ts positive is.3)
    ]

module _ {A : Type 0} (op : ℕ × Monomial → A → A) (start : A) (commutes : (s t : ℕ × Monomial) (x : A) → op s (op t x) ≡ op t (op s x)) where
  -- what is taken together from the terms, from the last to the first
  abbrev pub together : Terms → A
  together [] = start
  together (t ∷ ts) = op t (together ts)

  taken_out : (p : ℕ) (m : Monomial) (ts : Terms) → IsNormal p ts → written ts m ≢ 0 → together ts ≡ op (written ts m, m) (together (without m ts))
  taken_out p m [] is some = absurd (some refl)
  taken_out p m (t ∷ ts) is some =
      elim (cases_monomial t.1 m) as (λ _. together (t ∷ ts) ≡ op (written (t ∷ ts) m, m) (together (without m (t ∷ ts)))) [
        | inl here ↦
            let none : IsNoneOf (monomials_of ts) m = rw (sym here) is.2 in
            let rest : without m (t ∷ ts) ≡ ts = without-here m t ts here ∙ none_without m ts none in
            let count : written (t ∷ ts) m ≡ t.0 = ap (written (t ∷ ts)) (sym here) ∙ head_written p t ts is in
            rw (rest, count) (ap (λ n. op (t.0, n) (together ts)) here)
        | inr there ↦
            rw (without-there m t ts there, written-off m t ts there)
            (ap (op t) (taken_out p m ts is.3 (λ e. some (written-off m t ts there ∙ e))) ∙ commutes t (written ts m, m) (together (without m ts)))
      ]

  pub one_together : (p : ℕ) (a b : Terms) → 0 < p → IsNormal p a → IsNormal p b → SamePolynomial p a b → together a ≡ together b
  one_together p [] [] positive one other same = refl
  one_together p [] (t ∷ b) positive one other same =
      let none : t.0 ≡ 0 = sym (mod-eq_of_lt other.1) ∙ ap (λ n. n % p) (sym (head_written p t b other)) ∙ sym (same t.1) ∙ zero-mod p in
      absurd (omega (arith, none, other.0))
  one_together p (t ∷ a) b positive one other same =
      let m : Monomial = t.1 in
      let first : written (t ∷ a) m ≡ t.0 = head_written p t a one in
      let count : written b m ≡ t.0 = sym (mod-eq_of_lt (written_below p m b positive other)) ∙ sym (same m) ∙ ap (λ n. n % p) first ∙ mod-eq_of_lt one.1 in
      let rest : SamePolynomial p a (without m b) = λ n. elim (cases_monomial m n) as (λ _. written a n % p ≡ written (without m b) n % p) [
        | inl here ↦ ap (λ k. k % p) (ap (written a) (sym here) ∙ none_written m a one.2 ∙ sym (written-without_here m b) ∙ ap (written (without m b)) here)
        | inr there ↦ ap (λ k. k % p) (sym (written-off n t a there)) ∙ same n ∙ ap (λ k. k % p) (sym (written-without_there m n b there))
      ] in
      ap (op t) (one_together p a (without m b) positive one.3 (normal-without p m b other) rest)
      ∙ sym (taken_out p m b other (λ e. absurd (omega (arith, one.0, count, e))) ∙ ap (λ c. op (c, m) (together (without m b))) count)

-- ---- what this gives

length-together : (ts : Terms) → together (λ t n. suc n) 0 (λ s t x. refl) ts ≡ length ts
length-together [] = refl
length-together (t ∷ ts) = ap suc (length-together ts)

pub one_length : (p : ℕ) (a b : Terms) → 0 < p → IsSameLine p a b → length a ≡ length b
one_length p a b positive is =
    sym (length-together a) ∙ one_together (λ t n. suc n) 0 (λ s t x. refl) p a b positive is.one is.other is.same ∙ length-together b

max-swap : (a b c : ℕ) → max a (max b c) ≡ max b (max a c)
max-swap a b c = omega arith

degree-together : (a : ℕ) (ts : Terms) → fold (λ n (t : ℕ × Monomial). max n (degree t.1)) a ts ≡ max a (together (λ t n. max (degree t.1) n) 0 (λ s t x. max-swap (degree s.1) (degree t.1) x) ts)
degree-together a [] = omega arith
degree-together a (t ∷ ts) = degree-together (max a (degree t.1)) ts ∙ omega arith

pub one_degree : (p : ℕ) (a b : Terms) → 0 < p → IsSameLine p a b → degree_of a ≡ degree_of b
one_degree p a b positive is =
    degree-together 0 a ∙ ap (max 0) (one_together (λ t n. max (degree t.1) n) 0 (λ s t x. max-swap (degree s.1) (degree t.1) x) p a b positive is.one is.other is.same) ∙ sym (degree-together 0 b)

and-swap : (a b c : Bool) → (a && (b && c)) ≡ (b && (a && c))
and-swap true true c = refl
and-swap true false c = refl
and-swap false true c = refl
and-swap false false c = refl

all-together : (test : ℕ × Monomial → Bool) (ts : Terms) → together (λ t b. test t && b) true (λ s t x. and-swap (test s) (test t) x) ts ≡ list_all test ts
all-together test [] = refl
all-together test (t ∷ ts) = ap (λ b. test t && b) (all-together test ts)

pub one_test : (test : ℕ × Monomial → Bool) (p : ℕ) (a b : Terms) → 0 < p → IsSameLine p a b → list_all test a ≡ list_all test b
one_test test p a b positive is =
    sym (all-together test a) ∙ one_together (λ t x. test t && x) true (λ s t x. and-swap (test s) (test t) x) p a b positive is.one is.other is.same ∙ all-together test b

pub one_is_in : (x p : ℕ) (a b : Terms) → 0 < p → IsSameLine p a b → is_in x a ≡ is_in x b
one_is_in x p a b positive is = one_test (λ t. is_power x t.1) p a b positive is

plus-comm : (a b : Coefficients) → plus a b ≡ plus b a
plus-comm [] [] = refl
plus-comm [] (y ∷ b) = refl
plus-comm (x ∷ a) [] = refl
plus-comm (x ∷ a) (y ∷ b) = ap₂ ◌∷◌ (omega arith) (plus-comm a b)

plus-swap : (a b c : Coefficients) → plus a (plus b c) ≡ plus b (plus a c)
plus-swap [] b c = refl
plus-swap (x ∷ a) [] c = refl
plus-swap (x ∷ a) (y ∷ b) [] = plus-comm (x ∷ a) (y ∷ b)
plus-swap (x ∷ a) (y ∷ b) (z ∷ c) = ap₂ ◌∷◌ (omega arith) (plus-swap a b c)

coefficients-together : (ts : Terms) → together (λ t a. plus (shifted (degree t.1) (t.0 ∷ [])) a) [] (λ s t a. plus-swap (shifted (degree s.1) (s.0 ∷ [])) (shifted (degree t.1) (t.0 ∷ [])) a) ts ≡ coefficients_of ts
coefficients-together [] = refl
coefficients-together (t ∷ ts) = ap (plus (shifted (degree t.1) (t.0 ∷ []))) (coefficients-together ts)

pub one_coefficients : (p : ℕ) (a b : Terms) → 0 < p → IsSameLine p a b → coefficients_of a ≡ coefficients_of b
one_coefficients p a b positive is =
    sym (coefficients-together a)
    ∙ one_together (λ t c. plus (shifted (degree t.1) (t.0 ∷ [])) c) [] (λ s t c. plus-swap (shifted (degree s.1) (s.0 ∷ [])) (shifted (degree t.1) (t.0 ∷ [])) c) p a b positive is.one is.other is.same
    ∙ coefficients-together b

-- a constant other than 0, by its terms
abbrev is_constant_term : ℕ → ℕ × Monomial → Bool
is_constant_term p (c, []) = nat_lt 0 (c % p)
is_constant_term p (c, f ∷ m) = false

pub and_true : (b : Bool) → b ≡ (b && true)
and_true true = refl
and_true false = refl

two_or_more : (n : ℕ) → (suc (suc n) == 1) ≡ false
two_or_more n = false_from_ne_true (suc (suc n) == 1) (λ e. absurd (omega (arith, eqb-true (suc (suc n)) 1 e)))

constant-test : (p : ℕ) (ts : Terms) → is_nonzero_constant p ts ≡ ((length ts == 1) && list_all (is_constant_term p) ts)
constant-test p [] = refl
constant-test p ((c, []) ∷ []) = and_true (nat_lt 0 (c % p))
constant-test p ((c, f ∷ m) ∷ []) = refl
constant-test p (t ∷ u ∷ ts) = sym (ap (λ b. b && list_all (is_constant_term p) (t ∷ u ∷ ts)) (two_or_more (length ts)))

pub one_constant : (p : ℕ) (a b : Terms) → 0 < p → IsSameLine p a b → is_nonzero_constant p a ≡ is_nonzero_constant p b
one_constant p a b positive is =
    constant-test p a ∙ ap₂ (λ n c. (n == 1) && c) (one_length p a b positive is) (one_test (is_constant_term p) p a b positive is) ∙ sym (constant-test p b)
