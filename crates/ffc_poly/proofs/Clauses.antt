-- What the clauses of a polynomial's operations say of values, refusals and zero.
use Rattle.std.proofs.Common.{◌≡◌, ℕ, suc, ◌+◌, ◌-◌, ◌*◌, ◌%◌, ◌<◌, ◌≤◌, ◌↔◌, true, eqb, eq-eqb, [], ◌∷◌, ◌++◌, length, refl, sym, ap, ◌∙◌, subst, append-nil, length-append, inl, inr, arith, mul-one, zero-mul, eqb-true, mod-eq_of_lt, Result, Ok, Err, IfOk}
use Rattle.std.proofs.lemmas.Nat.{mul-mod_first, mul-mod_second}
use Rattle.std.proofs.Math.Nat.{mod_self, mul_assoc}
use Rattle.ffc_field.proofs.ModularLaws.{add_mod-neg, neg_mod-only}
use Rattle.ffc_field.specs.Modular.{add_mod, sub_mod, mul_mod, neg_mod}
use Rattle.ffc_ring.specs.Monomial.{Monomial, mono_value, mono_mul}
use Rattle.ffc_ring.specs.Polynomial.{Terms, written, coefficient, SamePolynomial, term_product, product, scaled, difference, value_sum, poly_value, PassesDegree, PassesTerms}
use Rattle.ffc_ring.proofs.PolynomialLemmas.{weighted, weighted-term_product, SamePolynomial-from_weighted, one_value, poly_value-append, poly_value-product, poly_value-difference, value_sum-term_product, same_sums, coefficient-scaled, cases_monomial, written-at, written-off, negated_mod}
use Rattle.ffc_poly.proofs.ProductLemmas.{SamePolynomial-scaled_one}
use Rattle.ffc_poly.proofs.Coefficients.{coefficient-none, PassesTerms-length, PassesTerms-same}

-- ---- values

pub value_of_sum : (p : ℕ) (r a b : Terms) → SamePolynomial p r (a ++ b) → (point : ℕ → ℕ) → poly_value p point r ≡ add_mod p (poly_value p point a) (poly_value p point b)
value_of_sum p r a b same point = one_value p point r (a ++ b) same ∙ poly_value-append p point a b

pub value_of_difference : (p : ℕ) → 0 < p → (r a b : Terms) → SamePolynomial p r (difference p a b) → (point : ℕ → ℕ) → poly_value p point r ≡ sub_mod p (poly_value p point a) (poly_value p point b)
value_of_difference p h r a b same point = one_value p point r (difference p a b) same ∙ poly_value-difference p h point a b

pub value_of_product : (p : ℕ) (r a b : Terms) → SamePolynomial p r (product a b) → (point : ℕ → ℕ) → poly_value p point r ≡ mul_mod p (poly_value p point a) (poly_value p point b)
value_of_product p r a b same point = one_value p point r (product a b) same ∙ poly_value-product p point a b

pub value_of_term : (p c : ℕ) (m : Monomial) (r a : Terms) → SamePolynomial p r (term_product c m a) → (point : ℕ → ℕ) → poly_value p point r ≡ mul_mod p (c * mono_value point m) (poly_value p point a)
value_of_term p c m r a same point =
    one_value p point r (term_product c m a) same ∙ ap (λ k. k % p) (value_sum-term_product point c m a)
    ∙ sym (mul-mod_second (c * mono_value point m) (value_sum point a) p)

pub value_of_scaled : (p c : ℕ) (r a : Terms) → SamePolynomial p r (scaled c a) → (point : ℕ → ℕ) → poly_value p point r ≡ mul_mod p c (poly_value p point a)
value_of_scaled p c r a same point = value_of_term p c [] r a same point ∙ ap (λ k. mul_mod p k (poly_value p point a)) (mul-one c)

-- ---- sums and differences by a factor

pub sum_by_one : (p one : ℕ) (a b : Terms) → 1 < p → one ≡ 1 % p → SamePolynomial p (a ++ scaled one b) (a ++ b)
sum_by_one p one a b h e =
    same_sums p a a (scaled one b) b (λ m. refl)
    (λ m. ap (λ k. written (scaled k b) m % p) (e ∙ mod-eq_of_lt h) ∙ SamePolynomial-scaled_one p b m)

pub difference_by_minus_one : (p one minus : ℕ) (a b : Terms) → 1 < p → one ≡ 1 % p → minus ≡ neg_mod p one → SamePolynomial p (a ++ scaled minus b) (difference p a b)
difference_by_minus_one p one minus a b h e f m =
    let is : minus ≡ p - 1 = f ∙ ap (neg_mod p) (e ∙ mod-eq_of_lt h) ∙ mod-eq_of_lt (omega arith) in
    ap (λ j. written (a ++ scaled j b) m % p) is

-- ---- zero

pub nothing_times : (p c : ℕ) (m : Monomial) (ts : Terms) → c ≡ 0 → SamePolynomial p [] (term_product c m ts)
nothing_times p c m ts e =
    SamePolynomial-from_weighted p [] (term_product c m ts)
    (λ g. ap (λ k. k % p) (sym (weighted-term_product g c m ts ∙ ap (λ k. k * weighted (λ n. g (mono_mul m n)) ts) e ∙ zero-mul (weighted (λ n. g (mono_mul m n)) ts))))

pub nothing_product : (p : ℕ) (a b : Terms) → a ≡ [] → SamePolynomial p [] (product a b)
nothing_product p a b e n = ap (λ k. written (product k b) n % p) (sym e)

product-nothing : (a : Terms) → product a [] ≡ []
product-nothing [] = refl
product-nothing (t ∷ a) = product-nothing a

pub product_nothing : (p : ℕ) (a b : Terms) → b ≡ [] → SamePolynomial p [] (product a b)
product_nothing p a b e n = ap (λ k. written k n % p) (sym (product-nothing a)) ∙ ap (λ k. written (product a k) n % p) (sym e)

-- a term with the coefficient 0 has no coefficient
zero_term : (p c : ℕ) (m n : Monomial) → c ≡ 0 → coefficient p ((c, m) ∷ []) n ≡ 0
zero_term p c m n e =
    elim (cases_monomial m n) [
      | inl here ↦ ap (λ k. k % p) (written-at n (c, m) [] here ∙ ap (λ k. k + 0) e) ∙ coefficient-none p n
      | inr there ↦ ap (λ k. k % p) (written-off n (c, m) [] there) ∙ coefficient-none p n
    ]

-- the test for length 0 is the test for zero
pub zero_test : (ts : Terms) (n : ℕ) → n ≡ length ts → (eqb n 0 ≡ true → ts ≡ []) × (ts ≡ [] → eqb n 0 ≡ true)
zero_test [] n e = (λ _. refl, λ _. eq-eqb n 0 e)
zero_test (t ∷ ts) n e = (λ h. absurd (omega (arith, eqb-true n 0 h)), λ h. absurd (omega (arith, ap length h)))

-- ---- values given

-- the value given has each property of what it equals
pub IfOk-from_value : {T E : Type 0} (r : Result T E) (x : T) (P : T → Type 0) → IfOk r (λ v. v ≡ x) → P x → IfOk r P
IfOk-from_value (Ok v) x P e h = subst P (sym e) h
IfOk-from_value (Err d) x P e h = tt

-- the value given is each polynomial that is the same
pub IfOk-same : {E : Type 0} (p : ℕ) (r : Result Terms E) (x y : Terms) → SamePolynomial p x y → IfOk r (λ v. SamePolynomial p v x) → IfOk r (λ v. SamePolynomial p v y)
IfOk-same p (Ok v) x y same h = λ m. h m ∙ same m
IfOk-same p (Err d) x y same h = tt

-- ---- multiples

length-term_product : (c : ℕ) (m : Monomial) (ts : Terms) → length (term_product c m ts) ≡ length ts
length-term_product c m [] = refl
length-term_product c m (t ∷ ts) = ap suc (length-term_product c m ts)

pub same_differences : (p : ℕ) (a b c : Terms) → SamePolynomial p b c → SamePolynomial p (difference p a b) (difference p a c)
same_differences p a b c same =
    same_sums p a a (scaled (p - 1) b) (scaled (p - 1) c) (λ m. refl)
    (λ m. coefficient-scaled p (p - 1) b m ∙ ap (mul_mod p (p - 1)) (same m) ∙ sym (coefficient-scaled p (p - 1) c m))

-- a multiple by the negation of a factor is the negation of the multiple
negated_factor : (p c k w : ℕ) → c < p → k ≡ neg_mod p c → k * w % p ≡ (p - 1) * (c * w) % p
negated_factor p c k w below e =
    ap (λ n. n * w % p) (e ∙ ap (λ n. (p - n) % p) (sym (mod-eq_of_lt below)) ∙ sym (negated_mod p c (omega arith)))
    ∙ mul-mod_first ((p - 1) * c) w p ∙ ap (λ n. n % p) (mul_assoc (p - 1) c w)

negated_multiple : (p c k : ℕ) (m : Monomial) (b : Terms) → c < p → k ≡ neg_mod p c → SamePolynomial p (term_product k m b) (scaled (p - 1) (term_product c m b))
negated_multiple p c k m b below e =
    SamePolynomial-from_weighted p (term_product k m b) (scaled (p - 1) (term_product c m b))
    (λ g. ap (λ n. n % p) (weighted-term_product g k m b) ∙ negated_factor p c k (weighted (λ n. g (mono_mul m n)) b) below e
    ∙ ap (λ n. n % p)
    (sym (weighted-term_product g (p - 1) [] (term_product c m b) ∙ ap (λ n. (p - 1) * n) (weighted-term_product (λ n. g (mono_mul [] n)) c m b))))

pub difference_by_negation : (p c k : ℕ) (m : Monomial) (a b : Terms) → c < p → k ≡ neg_mod p c → SamePolynomial p (a ++ term_product k m b) (difference p a (term_product c m b))
difference_by_negation p c k m a b below e =
    same_sums p a a (term_product k m b) (scaled (p - 1) (term_product c m b)) (λ _. refl) (negated_multiple p c k m b below e)

negated_zero : (p c k : ℕ) (m n : Monomial) → c < p → k ≡ neg_mod p c → coefficient p ((c, m) ∷ []) n ≡ 0 → coefficient p ((k, m) ∷ []) n ≡ 0
negated_zero p c k m n below e none =
    elim (cases_monomial m n) [
      | inl here ↦
          let low : c ≡ 0 =
          sym (mod-eq_of_lt below) ∙ ap (λ x. x % p) (let same : c ≡ c + 0 = omega arith in same)
          ∙ sym (ap (λ x. x % p) (written-at n (c, m) [] here)) ∙ none in
          zero_term p k m n (e ∙ ap (λ x. x % p) (let whole : p - c ≡ p = omega (arith, low) in whole) ∙ mod_self p)
      | inr there ↦ ap (λ x. x % p) (written-off n (k, m) [] there) ∙ coefficient-none p n
    ]

PassesDegree-negated : (p limit c k : ℕ) (m : Monomial) (b : Terms) → c < p → k ≡ neg_mod p c → PassesDegree p limit ((k, m) ∷ []) b → PassesDegree p limit ((c, m) ∷ []) b
PassesDegree-negated p limit c k m b below e (x, y, hx, hy, over) =
    (x, y, λ none. hx (negated_zero p c k m x below e none), hy, over)

-- the product with a negation passes the limit where the product does
pub negation_passes : (p limit c k : ℕ) (m : Monomial) (b : Terms) → c < p → k < p → k ≡ neg_mod p c → PassesDegree p limit ((k, m) ∷ []) b ↔ PassesDegree p limit ((c, m) ∷ []) b
negation_passes p limit c k m b below also e =
    let back : c ≡ neg_mod p k =
    neg_mod-only p k c (omega arith) below (ap (λ n. n % p) (let turned : k + c ≡ c + neg_mod p c = omega (arith, e) in turned) ∙ add_mod-neg p c (omega arith)) in
    (PassesDegree-negated p limit c k m b below e, PassesDegree-negated p limit k c m b also back)

-- a sum with what is 0
pub sum_with_nothing : (p : ℕ) (a b : Terms) → SamePolynomial p [] b → SamePolynomial p a (a ++ b)
sum_with_nothing p a b e n = ap (λ l. written l n % p) (sym (append-nil a)) ∙ same_sums p a a [] b (λ _. refl) e n

-- what is the sum with a multiple of a short list has no more terms than both together
pub sum_is_short : (p limit c : ℕ) (m : Monomial) (a b all : Terms) → length a + length b ≤ limit → SamePolynomial p all (a ++ term_product c m b) → PassesTerms p limit all → ⊥
sum_is_short p limit c m a b all few same passes =
    PassesTerms-length p limit (a ++ term_product c m b) (omega (arith, length-append a (term_product c m b), length-term_product c m b))
    (PassesTerms-same p limit all (a ++ term_product c m b) same passes)
