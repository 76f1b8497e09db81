-- The laws of polynomials. Each rests on one fact: a sum of the coefficients, each times a weight of its
-- monomial, depends modulo p on the polynomial alone, and not on the list of terms that it is written as.
-- A coefficient and a value at a point are such sums.
use Rattle.std.proofs.Common.{◌≡◌, ◌≢◌, ◌⊎◌, ℕ, zero, suc, ◌+◌, ◌-◌, ◌*◌, ◌%◌, ◌<◌, ◌≤◌, Bool, true, false, cond, [], ◌∷◌, ◌++◌, length, refl, sym, ap, ap₂, ◌∙◌, subst, inl, inr, eq-eqb, eqb-true, arith, mul_assoc, mul_left_comm, mul_comm, one-mul, mul-one, mul-add, add-mul, append_assoc, add_assoc}
use Rattle.std.proofs.Math.Nat.{add-mod, add-mod-mod, mul-mod_right, mod-mod, mod-lt, add-mod_right, mod_self, zero-mod}
use Rattle.std.proofs.lemmas.Nat.{mul-mod_first, mul-mod_second, mul-mod}
use Rattle.std.proofs.lemmas.Bool.{cond-true, cond-false, cases_Bool, cases_eq, and_parts, and_from, false≢true}
use Rattle.ffc_field.specs.Modular.{add_mod, sub_mod, mul_mod}
use Rattle.ffc_ring.specs.Monomial.{Monomial, IsMonomial, mono_mul, mono_value, same_monomial}
use Rattle.ffc_ring.specs.Polynomial.{Terms, AreTerms, written, coefficient, SamePolynomial, term_product, product, scaled, difference, value_sum, poly_value}
use Rattle.ffc_ring.proofs.MonomialLemmas.{mono_value-mono_mul, mono_mul_comm, mono_mul_assoc, mono_mul_cancel}

-- ---- the test for equality

pub same_monomial-true : (m n : Monomial) → same_monomial m n ≡ true → m ≡ n
same_monomial-true [] [] h = refl
same_monomial-true [] (q ∷ n) h = absurd (false≢true h)
same_monomial-true (p ∷ m) [] h = absurd (false≢true h)
same_monomial-true (p ∷ m) (q ∷ n) h =
    let both = and_parts _ _ h in
    let heads = and_parts _ _ both.0 in
    ap₂ ◌∷◌ (ap₂ (λ a b. (a, b)) (eqb-true p.0 q.0 heads.0) (eqb-true p.1 q.1 heads.1)) (same_monomial-true m n both.1)

pub same_monomial-self : (m : Monomial) → same_monomial m m ≡ true
same_monomial-self [] = refl
same_monomial-self (p ∷ m) =
    and_from _ _ (and_from _ _ (eq-eqb p.0 p.0 refl) (eq-eqb p.1 p.1 refl)) (same_monomial-self m)

pub same_monomial-equal : (m n : Monomial) → m ≡ n → same_monomial m n ≡ true
same_monomial-equal m n e = rw (sym e) (same_monomial-self m)

pub same_monomial-other : (m n : Monomial) → m ≢ n → same_monomial m n ≡ false
same_monomial-other m n ne =
    elim (cases_Bool (same_monomial m n)) [ inl found ↦ absurd (ne (same_monomial-true m n found)) | inr missed ↦ missed ]

-- two monomials are the same or not
pub cases_monomial : (m n : Monomial) → (m ≡ n) ⊎ (m ≢ n)
cases_monomial m n =
    elim (cases_Bool (same_monomial m n)) [
      | inl found ↦ inl (same_monomial-true m n found)
      | inr missed ↦ inr (λ e. false≢true (sym missed ∙ same_monomial-equal m n e))
    ]

-- ---- sums with weights

-- the sum of the coefficients, each times the weight of its monomial
abbrev pub weighted : (Monomial → ℕ) → Terms → ℕ
weighted g [] = 0
weighted g (t ∷ ts) = t.0 * g t.1 + weighted g ts

-- the weight that counts one monomial alone
abbrev pub one_at : Monomial → Monomial → ℕ
one_at m n = cond (same_monomial n m) 1 0

counted : (b : Bool) (c : ℕ) → cond b c 0 ≡ c * cond b 1 0
counted true c = omega arith
counted false c = omega arith

weighted-zero : (ts : Terms) → weighted (λ _. 0) ts ≡ 0
weighted-zero [] = refl
weighted-zero (t ∷ ts) = omega (arith, weighted-zero ts)

pub written-is_weighted : (ts : Terms) (m : Monomial) → written ts m ≡ weighted (one_at m) ts
written-is_weighted [] m = refl
written-is_weighted (t ∷ ts) m = ap₂ ◌+◌ (counted (same_monomial t.1 m) t.0) (written-is_weighted ts m)

pub value_sum-is_weighted : (point : ℕ → ℕ) (ts : Terms) → value_sum point ts ≡ weighted (mono_value point) ts
value_sum-is_weighted point [] = refl
value_sum-is_weighted point (t ∷ ts) = ap (λ k. t.0 * mono_value point t.1 + k) (value_sum-is_weighted point ts)

pub weighted-append : (g : Monomial → ℕ) (a b : Terms) → weighted g (a ++ b) ≡ weighted g a + weighted g b
weighted-append g [] b = omega arith
weighted-append g (t ∷ a) b = omega (arith, weighted-append g a b)

pub weighted-term_product : (g : Monomial → ℕ) (c : ℕ) (m : Monomial) (ts : Terms) → weighted g (term_product c m ts) ≡ c * weighted (λ n. g (mono_mul m n)) ts
weighted-term_product g c m [] = omega arith
weighted-term_product g c m (t ∷ ts) =
    ap₂ ◌+◌ (mul_assoc c t.0 (g (mono_mul m t.1))) (weighted-term_product g c m ts)
    ∙ sym (mul-add c (t.0 * g (mono_mul m t.1)) (weighted (λ n. g (mono_mul m n)) ts))

pub weighted-product : (g : Monomial → ℕ) (a b : Terms) → weighted g (product a b) ≡ weighted (λ m. weighted (λ n. g (mono_mul m n)) b) a
weighted-product g [] b = refl
weighted-product g (t ∷ a) b =
    weighted-append g (term_product t.0 t.1 b) (product a b)
    ∙ ap₂ ◌+◌ (weighted-term_product g t.0 t.1 b) (weighted-product g a b)

pub weighted-times : (g : Monomial → ℕ) (k : ℕ) (ts : Terms) → weighted (λ m. k * g m) ts ≡ k * weighted g ts
weighted-times g k [] = omega arith
weighted-times g k (t ∷ ts) =
    ap₂ ◌+◌ (mul_left_comm t.0 k (g t.1)) (weighted-times g k ts) ∙ sym (mul-add k (t.0 * g t.1) (weighted g ts))

pub weighted-sum : (g h : Monomial → ℕ) (ts : Terms) → weighted (λ m. g m + h m) ts ≡ weighted g ts + weighted h ts
weighted-sum g h [] = refl
weighted-sum g h (t ∷ ts) = omega (arith, mul-add t.0 (g t.1) (h t.1), weighted-sum g h ts)

-- weights that agree at monomials give one sum
pub weighted-alike : (g h : Monomial → ℕ) (ts : Terms) → AreTerms ts → ((m : Monomial) → IsMonomial m → g m ≡ h m) → weighted g ts ≡ weighted h ts
weighted-alike g h [] v e = refl
weighted-alike g h (t ∷ ts) v e = ap₂ (λ x y. t.0 * x + y) (e t.1 v.0) (weighted-alike g h ts v.1 e)

-- two sums may change places
pub weighted-swap : (h : Monomial → Monomial → ℕ) (a b : Terms) → weighted (λ m. weighted (h m) b) a ≡ weighted (λ n. weighted (λ m. h m n) a) b
weighted-swap h [] b = sym (weighted-zero b)
weighted-swap h (t ∷ a) b =
    ap₂ ◌+◌ (sym (weighted-times (h t.1) t.0 b)) (weighted-swap h a b)
    ∙ sym (weighted-sum (λ n. t.0 * h t.1 n) (λ n. weighted (λ m. h m n) a) b)

-- ---- modulo p

pub sum_alike : (p a b c d : ℕ) → a % p ≡ b % p → c % p ≡ d % p → (a + c) % p ≡ (b + d) % p
sum_alike p a b c d e f = add-mod a c p ∙ ap₂ (λ x y. (x + y) % p) e f ∙ sym (add-mod b d p)

pub times_alike : (p a b k : ℕ) → a % p ≡ b % p → (a * k) % p ≡ (b * k) % p
times_alike p a b k e = sym (mul-mod_first a k p) ∙ ap (λ x. (x * k) % p) e ∙ mul-mod_first b k p

-- weights that agree modulo p give sums that do
pub weighted-alike_mod : (p : ℕ) (g h : Monomial → ℕ) (ts : Terms) → ((m : Monomial) → g m % p ≡ h m % p) → weighted g ts % p ≡ weighted h ts % p
weighted-alike_mod p g h [] e = refl
weighted-alike_mod p g h (t ∷ ts) e =
    sum_alike p (t.0 * g t.1) (t.0 * h t.1) (weighted g ts) (weighted h ts)
    (ap (λ x. x % p) (mul_comm t.0 (g t.1)) ∙ times_alike p (g t.1) (h t.1) t.0 (e t.1) ∙ ap (λ x. x % p) (mul_comm (h t.1) t.0))
    (weighted-alike_mod p g h ts e)

-- ---- the terms of one monomial taken out

-- the terms of the other monomials
abbrev pub without : Monomial → Terms → Terms
without m [] = []
without m (t ∷ ts) = cond (same_monomial t.1 m) (without m ts) (t ∷ without m ts)

without-at : (m : Monomial) (t : ℕ × Monomial) (ts : Terms) → t.1 ≡ m → without m (t ∷ ts) ≡ without m ts
without-at m t ts e = cond-true _ _ _ (same_monomial-equal t.1 m e)

without-off : (m : Monomial) (t : ℕ × Monomial) (ts : Terms) → t.1 ≢ m → without m (t ∷ ts) ≡ t ∷ without m ts
without-off m t ts e = cond-false _ _ _ (same_monomial-other t.1 m e)

pub written-at : (m : Monomial) (t : ℕ × Monomial) (ts : Terms) → t.1 ≡ m → written (t ∷ ts) m ≡ t.0 + written ts m
written-at m t ts e = ap (λ k. k + written ts m) (cond-true _ _ _ (same_monomial-equal t.1 m e))

pub written-off : (m : Monomial) (t : ℕ × Monomial) (ts : Terms) → t.1 ≢ m → written (t ∷ ts) m ≡ written ts m
written-off m t ts e = ap (λ k. k + written ts m) (cond-false _ _ _ (same_monomial-other t.1 m e)) ∙ omega arith

length-without : (m : Monomial) (ts : Terms) → length (without m ts) ≤ length ts
length-without m [] = omega arith
length-without m (t ∷ ts) =
    elim (cases_monomial t.1 m) [
      | inl here ↦ rw (without-at m t ts here) (omega (arith, length-without m ts))
      | inr there ↦ rw (without-off m t ts there) (omega (arith, length-without m ts))
    ]

-- a sum with weights is the part of one monomial and the rest
pub weighted-without : (g : Monomial → ℕ) (m : Monomial) (ts : Terms) → weighted g ts ≡ written ts m * g m + weighted g (without m ts)
weighted-without g m [] = omega arith
weighted-without g m (t ∷ ts) =
    elim (cases_monomial t.1 m) [
      | inl here ↦
          rw (without-at m t ts here, written-at m t ts here)
          (ap₂ (λ n k. t.0 * g n + k) here (weighted-without g m ts)
          ∙ omega (arith, add-mul t.0 (written ts m) (g m)))
      | inr there ↦ rw (without-off m t ts there, written-off m t ts there) (omega (arith, weighted-without g m ts))
    ]

pub written-without_at : (m : Monomial) (ts : Terms) → written (without m ts) m ≡ 0
written-without_at m [] = refl
written-without_at m (t ∷ ts) =
    elim (cases_monomial t.1 m) [
      | inl here ↦ rw (without-at m t ts here) (written-without_at m ts)
      | inr there ↦ rw (without-off m t ts there) (written-off m t (without m ts) there ∙ written-without_at m ts)
    ]

pub written-without_off : (m n : Monomial) (ts : Terms) → m ≢ n → written (without m ts) n ≡ written ts n
written-without_off m n [] ne = refl
written-without_off m n (t ∷ ts) ne =
    elim (cases_monomial t.1 m) [
      | inl here ↦
          rw (without-at m t ts here) (written-without_off m n ts ne ∙ sym (written-off n t ts (λ e. ne (sym here ∙ e))))
      | inr there ↦ rw (without-off m t ts there) (ap (λ k. cond (same_monomial t.1 n) t.0 0 + k) (written-without_off m n ts ne))
    ]

-- the same polynomials stay the same without a monomial
SamePolynomial-without : (p : ℕ) (m : Monomial) (a b : Terms) → SamePolynomial p a b → SamePolynomial p (without m a) (without m b)
SamePolynomial-without p m a b same n =
    elim (cases_monomial m n) [
      | inl here ↦
          ap (λ k. written (without m a) k % p) (sym here) ∙ ap (λ k. k % p) (written-without_at m a ∙ sym (written-without_at m b))
          ∙ ap (λ k. written (without m b) k % p) here
      | inr there ↦
          ap (λ k. k % p) (written-without_off m n a there) ∙ same n ∙ ap (λ k. k % p) (sym (written-without_off m n b there))
    ]

-- one step: where the sums agree without a monomial, they agree
alike_from_without : (p : ℕ) (g : Monomial → ℕ) (m : Monomial) (a b : Terms) → SamePolynomial p a b → weighted g (without m a) % p ≡ weighted g (without m b) % p → weighted g a % p ≡ weighted g b % p
alike_from_without p g m a b same rest =
    ap (λ k. k % p) (weighted-without g m a)
    ∙ sum_alike p (written a m * g m) (written b m * g m) (weighted g (without m a)) (weighted g (without m b))
    (times_alike p (written a m) (written b m) (g m) (same m)) rest
    ∙ ap (λ k. k % p) (sym (weighted-without g m b))

alike_within : (p : ℕ) (g : Monomial → ℕ) (bound : ℕ) (a b : Terms) → length a + length b ≤ bound → SamePolynomial p a b → weighted g a % p ≡ weighted g b % p
alike_within p g bound [] [] h same = refl
alike_within p g zero (t ∷ a) b h same = absurd (omega arith)
alike_within p g zero [] (t ∷ b) h same = absurd (omega arith)
alike_within p g (suc bound) (t ∷ a) b h same =
    let shorter : length (without t.1 (t ∷ a)) ≤ length a = rw (without-at t.1 t a refl) (length-without t.1 a) in
    alike_from_without p g t.1 (t ∷ a) b same
    (alike_within p g bound (without t.1 (t ∷ a)) (without t.1 b) (omega (arith, length-without t.1 b)) (SamePolynomial-without p t.1 (t ∷ a) b same))
alike_within p g (suc bound) [] (t ∷ b) h same =
    let shorter : length (without t.1 (t ∷ b)) ≤ length b = rw (without-at t.1 t b refl) (length-without t.1 b) in
    alike_from_without p g t.1 [] (t ∷ b) same
    (alike_within p g bound [] (without t.1 (t ∷ b)) (omega arith) (SamePolynomial-without p t.1 [] (t ∷ b) same))

-- a sum with weights depends on the polynomial alone
pub one_weighted : (p : ℕ) (g : Monomial → ℕ) (a b : Terms) → SamePolynomial p a b → weighted g a % p ≡ weighted g b % p
one_weighted p g a b same = alike_within p g (length a + length b) a b (omega arith) same

-- ---- the laws of coefficients

coefficient-is_weighted : (p : ℕ) (ts : Terms) (m : Monomial) → coefficient p ts m ≡ weighted (one_at m) ts % p
coefficient-is_weighted p ts m = ap (λ k. k % p) (written-is_weighted ts m)

pub written-append : (a b : Terms) (m : Monomial) → written (a ++ b) m ≡ written a m + written b m
written-append [] b m = omega arith
written-append (t ∷ a) b m = ap (λ k. cond (same_monomial t.1 m) t.0 0 + k) (written-append a b m) ∙ sym (add_assoc _ (written a m) (written b m))

pub written-scaled : (c : ℕ) (ts : Terms) (m : Monomial) → written (scaled c ts) m ≡ c * written ts m
written-scaled c ts m = written-is_weighted (scaled c ts) m ∙ weighted-term_product (one_at m) c [] ts ∙ ap (λ k. c * k) (sym (written-is_weighted ts m))

pub coefficient-append : (p : ℕ) (a b : Terms) (m : Monomial) → coefficient p (a ++ b) m ≡ add_mod p (coefficient p a m) (coefficient p b m)
coefficient-append p a b m = ap (λ k. k % p) (written-append a b m) ∙ add-mod (written a m) (written b m) p

pub coefficient-scaled : (p c : ℕ) (a : Terms) (m : Monomial) → coefficient p (scaled c a) m ≡ mul_mod p c (coefficient p a m)
coefficient-scaled p c a m = ap (λ k. k % p) (written-scaled c a m) ∙ sym (mul-mod_second c (written a m) p)

-- what is left where the same is added modulo p
pub cancel_mod : (p a b r : ℕ) → r ≤ p → (a + r) % p ≡ (b + r) % p → a % p ≡ b % p
cancel_mod p a b r h e =
    let whole : (n : ℕ) → n % p ≡ (n + r + (p - r)) % p = λ n. sym (add-mod_right n p) ∙ ap (λ k. k % p) (omega arith) in
    whole a ∙ sum_alike p (a + r) (b + r) (p - r) (p - r) e refl ∙ sym (whole b)

-- p - 1 times a number is its negation
pub negated_mod : (p b : ℕ) → 0 < p → ((p - 1) * b) % p ≡ (p - b % p) % p
negated_mod p b h =
    let r : b % p < p = mod-lt b h in
    let product : (p - 1) * b + b ≡ p * b = sym (ap (λ k. (p - 1) * b + k) (one-mul b)) ∙ sym (add-mul (p - 1) 1 b) ∙ ap (λ k. k * b) (omega arith) in
    cancel_mod p ((p - 1) * b) (p - b % p) (b % p) (omega arith)
    (add-mod-mod ((p - 1) * b) b p ∙ ap (λ k. k % p) product ∙ mul-mod_right p b ∙ sym (ap (λ k. k % p) (omega arith) ∙ mod_self p))

-- what is added as p - 1 times a number is subtracted
pub subtracted_mod : (p a b : ℕ) → 0 < p → (a + (p - 1) * b) % p ≡ sub_mod p (a % p) (b % p)
subtracted_mod p a b h =
    sum_alike p a (a % p) ((p - 1) * b) (p - b % p) (sym (mod-mod a p)) (negated_mod p b h)

pub coefficient-difference : (p : ℕ) → 0 < p → (a b : Terms) (m : Monomial) → coefficient p (difference p a b) m ≡ sub_mod p (coefficient p a m) (coefficient p b m)
coefficient-difference p h a b m =
    ap (λ k. k % p) (written-append a (scaled (p - 1) b) m ∙ ap (λ k. written a m + k) (written-scaled (p - 1) b m))
    ∙ subtracted_mod p (written a m) (written b m) h

-- ---- the laws of values

pub value_sum-append : (point : ℕ → ℕ) (a b : Terms) → value_sum point (a ++ b) ≡ value_sum point a + value_sum point b
value_sum-append point a b =
    value_sum-is_weighted point (a ++ b) ∙ weighted-append (mono_value point) a b
    ∙ ap₂ ◌+◌ (sym (value_sum-is_weighted point a)) (sym (value_sum-is_weighted point b))

pub value_sum-term_product : (point : ℕ → ℕ) (c : ℕ) (m : Monomial) (ts : Terms) → value_sum point (term_product c m ts) ≡ c * mono_value point m * value_sum point ts
value_sum-term_product point c m ts =
    value_sum-is_weighted point (term_product c m ts) ∙ weighted-term_product (mono_value point) c m ts
    ∙ ap (λ (f : Monomial → ℕ). c * weighted f ts) (λ i n. mono_value-mono_mul point m n i)
    ∙ ap (λ k. c * k) (weighted-times (mono_value point) (mono_value point m) ts ∙ ap (λ k. mono_value point m * k) (sym (value_sum-is_weighted point ts)))
    ∙ sym (mul_assoc c (mono_value point m) (value_sum point ts))

pub value_sum-product : (point : ℕ → ℕ) (a b : Terms) → value_sum point (product a b) ≡ value_sum point a * value_sum point b
value_sum-product point [] b = omega arith
value_sum-product point (t ∷ a) b =
    value_sum-append point (term_product t.0 t.1 b) (product a b)
    ∙ ap₂ ◌+◌ (value_sum-term_product point t.0 t.1 b) (value_sum-product point a b)
    ∙ sym (add-mul (t.0 * mono_value point t.1) (value_sum point a) (value_sum point b))

pub poly_value-append : (p : ℕ) (point : ℕ → ℕ) (a b : Terms) → poly_value p point (a ++ b) ≡ add_mod p (poly_value p point a) (poly_value p point b)
poly_value-append p point a b = ap (λ k. k % p) (value_sum-append point a b) ∙ add-mod (value_sum point a) (value_sum point b) p

pub poly_value-product : (p : ℕ) (point : ℕ → ℕ) (a b : Terms) → poly_value p point (product a b) ≡ mul_mod p (poly_value p point a) (poly_value p point b)
poly_value-product p point a b = ap (λ k. k % p) (value_sum-product point a b) ∙ mul-mod (value_sum point a) (value_sum point b) p

pub poly_value-difference : (p : ℕ) → 0 < p → (point : ℕ → ℕ) (a b : Terms) → poly_value p point (difference p a b) ≡ sub_mod p (poly_value p point a) (poly_value p point b)
poly_value-difference p h point a b =
    ap (λ k. k % p) (value_sum-append point a (scaled (p - 1) b)
    ∙ ap (λ k. value_sum point a + k) (value_sum-term_product point (p - 1) [] b ∙ ap (λ k. k * value_sum point b) (mul-one (p - 1))))
    ∙ subtracted_mod p (value_sum point a) (value_sum point b) h

pub one_value : (p : ℕ) (point : ℕ → ℕ) (a b : Terms) → SamePolynomial p a b → poly_value p point a ≡ poly_value p point b
one_value p point a b same =
    ap (λ k. k % p) (value_sum-is_weighted point a) ∙ one_weighted p (mono_value point) a b same
    ∙ ap (λ k. k % p) (sym (value_sum-is_weighted point b))

-- ---- the same polynomials

-- lists whose sums agree for every weight are the same polynomial
pub SamePolynomial-from_weighted : (p : ℕ) (a b : Terms) → ((g : Monomial → ℕ) → weighted g a % p ≡ weighted g b % p) → SamePolynomial p a b
SamePolynomial-from_weighted p a b h m =
    coefficient-is_weighted p a m ∙ h (one_at m) ∙ sym (coefficient-is_weighted p b m)

pub same_sums : (p : ℕ) (a b c d : Terms) → SamePolynomial p a b → SamePolynomial p c d → SamePolynomial p (a ++ c) (b ++ d)
same_sums p a b c d e f m = coefficient-append p a c m ∙ ap₂ (add_mod p) (e m) (f m) ∙ sym (coefficient-append p b d m)

pub same_products : (p : ℕ) (a b c d : Terms) → SamePolynomial p a b → SamePolynomial p c d → SamePolynomial p (product a c) (product b d)
same_products p a b c d e f =
    SamePolynomial-from_weighted p (product a c) (product b d)
    (λ g.
    ap (λ k. k % p) (weighted-product g a c) ∙ one_weighted p (λ m. weighted (λ n. g (mono_mul m n)) c) a b e
    ∙ weighted-alike_mod p (λ m. weighted (λ n. g (mono_mul m n)) c) (λ m. weighted (λ n. g (mono_mul m n)) d) b
    (λ m. one_weighted p (λ n. g (mono_mul m n)) c d f)
    ∙ ap (λ k. k % p) (sym (weighted-product g b d)))

pub same_term_products : (p c : ℕ) (m : Monomial) (a b : Terms) → SamePolynomial p a b → SamePolynomial p (term_product c m a) (term_product c m b)
same_term_products p c m a b e =
    SamePolynomial-from_weighted p (term_product c m a) (term_product c m b)
    (λ g.
    ap (λ k. k % p) (weighted-term_product g c m a ∙ mul_comm c _)
    ∙ times_alike p (weighted (λ n. g (mono_mul m n)) a) (weighted (λ n. g (mono_mul m n)) b) c (one_weighted p (λ n. g (mono_mul m n)) a b e)
    ∙ ap (λ k. k % p) (mul_comm _ c ∙ sym (weighted-term_product g c m b)))

pub sum_commutes : (p : ℕ) (a b : Terms) → SamePolynomial p (a ++ b) (b ++ a)
sum_commutes p a b m = ap (λ k. k % p) (omega (arith, written-append a b m, written-append b a m))

pub product_commutes : (p : ℕ) (a b : Terms) → AreTerms a → AreTerms b → SamePolynomial p (product a b) (product b a)
product_commutes p a b v w =
    SamePolynomial-from_weighted p (product a b) (product b a)
    (λ g. ap (λ k. k % p)
    (weighted-product g a b
    ∙ weighted-alike (λ m. weighted (λ n. g (mono_mul m n)) b) (λ m. weighted (λ n. g (mono_mul n m)) b) a v
    (λ m vm. weighted-alike (λ n. g (mono_mul m n)) (λ n. g (mono_mul n m)) b w (λ n vn. ap g (mono_mul_comm m n vm vn)))
    ∙ weighted-swap (λ m n. g (mono_mul n m)) a b ∙ sym (weighted-product g b a)))

pub product_associates : (p : ℕ) (a b c : Terms) → AreTerms a → AreTerms b → AreTerms c → SamePolynomial p (product (product a b) c) (product a (product b c))
product_associates p a b c v w u =
    SamePolynomial-from_weighted p (product (product a b) c) (product a (product b c))
    (λ g. ap (λ k. k % p)
    (weighted-product g (product a b) c ∙ weighted-product (λ k. weighted (λ l. g (mono_mul k l)) c) a b
    ∙ weighted-alike (λ m. weighted (λ n. weighted (λ l. g (mono_mul (mono_mul m n) l)) c) b) (λ m. weighted (λ k. g (mono_mul m k)) (product b c)) a v
    (λ m vm.
    weighted-alike (λ n. weighted (λ l. g (mono_mul (mono_mul m n) l)) c) (λ n. weighted (λ l. g (mono_mul m (mono_mul n l))) c) b w
    (λ n vn. weighted-alike (λ l. g (mono_mul (mono_mul m n) l)) (λ l. g (mono_mul m (mono_mul n l))) c u (λ l vl. ap g (mono_mul_assoc m n l vm vn vl)))
    ∙ sym (weighted-product (λ k. g (mono_mul m k)) b c))
    ∙ sym (weighted-product g a (product b c))))

pub product-append : (a b c : Terms) → product (a ++ b) c ≡ product a c ++ product b c
product-append [] b c = refl
product-append (t ∷ a) b c = ap (λ k. term_product t.0 t.1 c ++ k) (product-append a b c) ∙ simp append_assoc

pub product_distributes : (p : ℕ) (a b c : Terms) → SamePolynomial p (product (a ++ b) c) (product a c ++ product b c)
product_distributes p a b c m = ap (λ k. coefficient p k m) (product-append a b c)

pub product_distributes_from_left : (p : ℕ) (a b c : Terms) → SamePolynomial p (product a (b ++ c)) (product a b ++ product a c)
product_distributes_from_left p a b c =
    SamePolynomial-from_weighted p (product a (b ++ c)) (product a b ++ product a c)
    (λ g. ap (λ k. k % p)
    (weighted-product g a (b ++ c)
    ∙ ap (λ (f : Monomial → ℕ). weighted f a) (λ i m. weighted-append (λ n. g (mono_mul m n)) b c i)
    ∙ weighted-sum (λ m. weighted (λ n. g (mono_mul m n)) b) (λ m. weighted (λ n. g (mono_mul m n)) c) a
    ∙ ap₂ ◌+◌ (sym (weighted-product g a b)) (sym (weighted-product g a c))
    ∙ sym (weighted-append g (product a b) (product a c))))

pub product_with_one : (p : ℕ) (a : Terms) → SamePolynomial p (product ((1, []) ∷ []) a) a
product_with_one p a =
    SamePolynomial-from_weighted p (product ((1, []) ∷ []) a) a
    (λ g. ap (λ k. k % p) (weighted-product g ((1, []) ∷ []) a ∙ omega (arith, one-mul (weighted g a))))

-- ---- multiples by a term

-- the shifted monomial weighs as the monomial did
pub shifted_one : (m n k : Monomial) → IsMonomial m → IsMonomial n → IsMonomial k → one_at (mono_mul m n) (mono_mul m k) ≡ one_at n k
shifted_one m n k v w u =
    elim (cases_monomial k n) [
      | inl same ↦
          cond-true _ _ _ (same_monomial-equal (mono_mul m k) (mono_mul m n) (ap (mono_mul m) same))
          ∙ sym (cond-true _ _ _ (same_monomial-equal k n same))
      | inr other ↦
          cond-false _ _ _ (same_monomial-other (mono_mul m k) (mono_mul m n) (λ e. other (mono_mul_cancel m k n v u w e)))
          ∙ sym (cond-false _ _ _ (same_monomial-other k n other))
    ]

pub coefficient-term_product : (p c : ℕ) (m n : Monomial) (a : Terms) → IsMonomial m → IsMonomial n → AreTerms a → coefficient p (term_product c m a) (mono_mul m n) ≡ mul_mod p c (coefficient p a n)
coefficient-term_product p c m n a v w u =
    ap (λ k. k % p)
    (written-is_weighted (term_product c m a) (mono_mul m n) ∙ weighted-term_product (one_at (mono_mul m n)) c m a
    ∙ ap (λ k. c * k) (weighted-alike (λ k. one_at (mono_mul m n) (mono_mul m k)) (one_at n) a u (λ k x. shifted_one m n k v w x) ∙ sym (written-is_weighted a n)))
    ∙ sym (mul-mod_second c (written a n) p)

-- a monomial of the terms after the first, whose product is another
behind_first : (p : ℕ) (m k : Monomial) (t : ℕ × Monomial) (a : Terms) → IsMonomial t.1 × AreTerms a → mono_mul m t.1 ≢ k → (n : Monomial) × IsMonomial n × (coefficient p a n ≢ 0) × (k ≡ mono_mul m n) → (n : Monomial) × IsMonomial n × (coefficient p (t ∷ a) n ≢ 0) × (k ≡ mono_mul m n)
behind_first p m k t a u there (n, w, some, e) =
    (n, w, (λ none. some (sym (ap (λ x. x % p) (written-off n t a (λ same. there (ap (mono_mul m) same ∙ sym e)))) ∙ none)), e)

pub shifted_monomial : (p c : ℕ) (m k : Monomial) (a : Terms) → IsMonomial m → AreTerms a → coefficient p (term_product c m a) k ≢ 0 → (n : Monomial) × IsMonomial n × (coefficient p a n ≢ 0) × (k ≡ mono_mul m n)
shifted_monomial p c m k [] v u some = absurd (some (zero-mod p))
shifted_monomial p c m k (t ∷ a) v u some =
    elim (cases_monomial (mono_mul m t.1) k) [
      | inl here ↦ (
        t.1,
        u.0,
        (λ none.
            some
            (ap (coefficient p (term_product c m (t ∷ a))) (sym here) ∙ coefficient-term_product p c m t.1 (t ∷ a) v u.0 u ∙ ap (λ x. mul_mod p c x) none
            ∙ ap (λ x. x % p) (omega arith) ∙ zero-mod p)),
        sym here,
      )
      | inr there ↦
          behind_first p m k t a u there
          (shifted_monomial p c m k a v u.1 (λ none. some (ap (λ x. x % p) (written-off k (c * t.0, mono_mul m t.1) (term_product c m a) there) ∙ none)))
    ]

-- ---- sums with weights that are all 0

AreTerms-without : (m : Monomial) (ts : Terms) → AreTerms ts → AreTerms (without m ts)
AreTerms-without m [] v = tt
AreTerms-without m (t ∷ ts) v =
    elim (cases_monomial t.1 m) [
      | inl here ↦ rw (without-at m t ts here) (AreTerms-without m ts v.1)
      | inr there ↦ rw (without-off m t ts there) (v.0, AreTerms-without m ts v.1)
    ]

pub coefficient-without : (p : ℕ) (m n : Monomial) (ts : Terms) → coefficient p (without m ts) n ≢ 0 → (m ≢ n) × (coefficient p ts n ≢ 0)
coefficient-without p m n ts some =
    elim (cases_monomial m n) [
      | inl here ↦
          absurd (some (ap (coefficient p (without m ts)) (sym here) ∙ ap (λ k. k % p) (written-without_at m ts) ∙ zero-mod p))
      | inr there ↦ (there, (λ none. some (ap (λ k. k % p) (written-without_off m n ts there) ∙ none)))
    ]

part_none : (p c g : ℕ) → (c % p ≢ 0 → g % p ≡ 0) → (c * g) % p ≡ 0
part_none p c g h =
    elim (cases_eq (c % p) 0) [
      | inl none ↦ times_alike p c 0 g (none ∙ sym (zero-mod p)) ∙ ap (λ k. k % p) (omega arith) ∙ zero-mod p
      | inr some ↦ sym (mul-mod_second c g p) ∙ ap (λ k. (c * k) % p) (h some) ∙ ap (λ k. k % p) (omega arith) ∙ zero-mod p
    ]

none_within : (p : ℕ) (g : Monomial → ℕ) (bound : ℕ) (ts : Terms) → length ts ≤ bound → AreTerms ts → ((x : Monomial) → IsMonomial x → coefficient p ts x ≢ 0 → g x % p ≡ 0) → weighted g ts % p ≡ 0
none_within p g bound [] h v none = zero-mod p
none_within p g zero (t ∷ ts) h v none = absurd (omega arith)
none_within p g (suc bound) (t ∷ ts) h v none =
    let shorter : length (without t.1 (t ∷ ts)) ≤ length ts = rw (without-at t.1 t ts refl) (length-without t.1 ts) in
    let rest : weighted g (without t.1 (t ∷ ts)) % p ≡ 0 =
    none_within p g bound (without t.1 (t ∷ ts)) (omega arith) (AreTerms-without t.1 (t ∷ ts) v)
    (λ x w some. none x w (coefficient-without p t.1 x (t ∷ ts) some).1) in
    ap (λ k. k % p) (weighted-without g t.1 (t ∷ ts))
    ∙ sum_alike p (written (t ∷ ts) t.1 * g t.1) 0 (weighted g (without t.1 (t ∷ ts))) 0
    (part_none p (written (t ∷ ts) t.1) (g t.1) (none t.1 v.0) ∙ sym (zero-mod p)) (rest ∙ sym (zero-mod p))
    ∙ zero-mod p

-- where each monomial with a coefficient weighs 0, so does the sum
pub weighted_none : (p : ℕ) (g : Monomial → ℕ) (ts : Terms) → AreTerms ts → ((x : Monomial) → IsMonomial x → coefficient p ts x ≢ 0 → g x % p ≡ 0) → weighted g ts % p ≡ 0
weighted_none p g ts v none = none_within p g (length ts) ts (omega arith) v none

-- where no product of a monomial of each is k, k has no coefficient in the product
pub coefficient-no_product : (p : ℕ) (a b : Terms) (k : Monomial) → AreTerms a → AreTerms b → ((x y : Monomial) → IsMonomial x → IsMonomial y → coefficient p a x ≢ 0 → coefficient p b y ≢ 0 → mono_mul x y ≢ k) → coefficient p (product a b) k ≡ 0
coefficient-no_product p a b k v w apart =
    ap (λ x. x % p) (written-is_weighted (product a b) k ∙ weighted-product (one_at k) a b)
    ∙ weighted_none p (λ x. weighted (λ y. one_at k (mono_mul x y)) b) a v
    (λ x u some. weighted_none p (λ y. one_at k (mono_mul x y)) b w
    (λ y t other. ap (λ j. j % p) (cond-false _ _ _ (same_monomial-other (mono_mul x y) k (apart x y u t some other))) ∙ zero-mod p))

-- where a product of a monomial of each is m*n for m and n alone, its coefficient is the product of theirs
pub coefficient-one_product : (p : ℕ) (a b : Terms) (m n : Monomial) → AreTerms a → AreTerms b → IsMonomial m → IsMonomial n → ((x y : Monomial) → IsMonomial x → IsMonomial y → coefficient p a x ≢ 0 → coefficient p b y ≢ 0 → m ≢ x → mono_mul x y ≢ mono_mul m n) → coefficient p (product a b) (mono_mul m n) ≡ mul_mod p (coefficient p a m) (coefficient p b n)
coefficient-one_product p a b m n v w u t alone =
    let g : Monomial → ℕ = λ x. weighted (λ y. one_at (mono_mul m n) (mono_mul x y)) b in
    let at_m : g m ≡ written b n =
    weighted-alike (λ y. one_at (mono_mul m n) (mono_mul m y)) (one_at n) b w (λ y s. shifted_one m n y u t s) ∙ sym (written-is_weighted b n) in
    let rest : weighted g (without m a) % p ≡ 0 =
    weighted_none p g (without m a) (AreTerms-without m a v)
    (λ x s some.
    let both = coefficient-without p m x a some in
    weighted_none p (λ y. one_at (mono_mul m n) (mono_mul x y)) b w
    (λ y r other. ap (λ j. j % p) (cond-false _ _ _ (same_monomial-other (mono_mul x y) (mono_mul m n) (alone x y s r both.1 other both.0))) ∙ zero-mod p)) in
    ap (λ x. x % p) (written-is_weighted (product a b) (mono_mul m n) ∙ weighted-product (one_at (mono_mul m n)) a b ∙ weighted-without g m a)
    ∙ sum_alike p (written a m * g m) (written a m * written b n) (weighted g (without m a)) 0 (ap (λ k. (written a m * k) % p) at_m) (rest ∙ sym (zero-mod p))
    ∙ ap (λ k. k % p) (omega arith) ∙ mul-mod (written a m) (written b n) p

-- a monomial with a coefficient is one
pub monomial_of_coefficient : (p : ℕ) (ts : Terms) (m : Monomial) → AreTerms ts → coefficient p ts m ≢ 0 → IsMonomial m
monomial_of_coefficient p [] m v some = absurd (some (zero-mod p))
monomial_of_coefficient p (t ∷ ts) m v some =
    elim (cases_monomial t.1 m) [
      | inl here ↦ subst IsMonomial here v.0
      | inr there ↦ monomial_of_coefficient p ts m v.1 (λ none. some (ap (λ k. k % p) (written-off m t ts there) ∙ none))
    ]
