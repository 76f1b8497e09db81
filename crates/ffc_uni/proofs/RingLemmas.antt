-- Polynomials in one variable among those in many.
use Rattle.std.proofs.Common.{◌≡◌, ◌≢◌, ℕ, zero, suc, ◌+◌, ◌*◌, ◌%◌, ◌^◌, ◌<◌, [], ◌∷◌, ◌++◌, refl, sym, ap, ap₂, ◌∙◌, arith, mul-one}
use Rattle.std.proofs.Math.Nat.{pow-zero}
use Rattle.ffc_ring.specs.Monomial.{Monomial, degree, mono_mul, mono_value}
use Rattle.ffc_ring.specs.Polynomial.{written, coefficient, SamePolynomial, product, poly_value}
use Rattle.ffc_ring.proofs.MonomialLemmas.{with_power-same}
use Rattle.ffc_ring.proofs.PolynomialLemmas.{weighted, weighted-append, weighted-product, value_sum-is_weighted, written-at, written-off, SamePolynomial-from_weighted}
use Rattle.ffc_uni.specs.Univariate.{Coefficients, coefficient_at, SameUnivariate, plus, multiple, times, value_of, power_of, terms_from, terms_in}
use Rattle.ffc_uni.proofs.ValueLemmas.{weighed, weighed-plus, weighed-multiple, one_weighed, sum_at-is_weighed}

-- ---- powers of one variable

degree-power_of : (v k : ℕ) → degree (power_of v k) ≡ k
degree-power_of v zero = refl
degree-power_of v (suc k) = omega arith

power_of_other : (v i j : ℕ) → i ≢ j → power_of v i ≢ power_of v j
power_of_other v i j other same = other (sym (degree-power_of v i) ∙ ap degree same ∙ degree-power_of v j)

mono_mul-power_of : (v i j : ℕ) → mono_mul (power_of v i) (power_of v j) ≡ power_of v (i + j)
mono_mul-power_of v zero j = ap (power_of v) (let same : j ≡ 0 + j = omega arith in same)
mono_mul-power_of v (suc i) zero = ap (power_of v) (let same : suc i ≡ suc i + 0 = omega arith in same)
mono_mul-power_of v (suc i) (suc j) =
    let same : suc i + suc j ≡ suc (i + suc j) = omega arith
    in with_power-same ◌+◌ v (suc i) (v, suc j) [] refl
    ∙ ap (λ k. (v, k) ∷ []) same ∙ sym (ap (power_of v) same)

mono_value-power_of : (point : ℕ → ℕ) (v k : ℕ) → mono_value point (power_of v k) ≡ point v ^ k
mono_value-power_of point v zero = sym (pow-zero (point v))
mono_value-power_of point v (suc k) = mul-one (point v ^ suc k)

-- ---- sums with weights

weighed-alike : (f g : ℕ → ℕ) (k : ℕ) (a : Coefficients) → ((j : ℕ) → f j ≡ g j) → weighed f k a ≡ weighed g k a
weighed-alike f g k [] same = refl
weighed-alike f g k (c ∷ a) same = ap₂ (λ x y. c * x + y) (same k) (weighed-alike f g (suc k) a same)

weighed-shift : (f : ℕ → ℕ) (k i : ℕ) (a : Coefficients) → weighed (λ j. f (k + j)) i a ≡ weighed f (k + i) a
weighed-shift f k i [] = refl
weighed-shift f k i (c ∷ a) =
    ap (λ n. c * f (k + i) + n)
    (weighed-shift f k (suc i) a ∙ ap (λ n. weighed f n a) (let same : k + suc i ≡ suc (k + i) = omega arith in same))

weighted-terms_from : (g : Monomial → ℕ) (v k : ℕ) (a : Coefficients) → weighted g (terms_from v k a) ≡ weighed (λ j. g (power_of v j)) k a
weighted-terms_from g v k [] = refl
weighted-terms_from g v k (c ∷ a) = ap (λ n. c * g (power_of v k) + n) (weighted-terms_from g v (suc k) a)

weighed-times : (f : ℕ → ℕ) (k : ℕ) (a b : Coefficients) → weighed f k (times a b) ≡ weighed (λ i. weighed (λ j. f (i + j)) 0 b) k a
weighed-times f k [] b = refl
weighed-times f k (c ∷ a) b =
    let start : weighed f k b ≡ weighed (λ j. f (k + j)) 0 b =
    ap (λ n. weighed f n b) (let same : k ≡ k + 0 = omega arith in same) ∙ sym (weighed-shift f k 0 b)
    in let none : weighed f k (0 ∷ times a b) ≡ weighed f (suc k) (times a b) = omega arith
    in weighed-plus f k (multiple c b) (0 ∷ times a b)
    ∙ ap₂ ◌+◌ (weighed-multiple f k c b ∙ ap (λ n. c * n) start) (none ∙ weighed-times f (suc k) a b)

weighted-terms_product : (g : Monomial → ℕ) (v : ℕ) (a b : Coefficients) →
    weighted g (product (terms_in v a) (terms_in v b)) ≡ weighted g (terms_in v (times a b))
weighted-terms_product g v a b =
    weighted-product g (terms_in v a) (terms_in v b)
    ∙ weighted-terms_from (λ m. weighted (λ n. g (mono_mul m n)) (terms_in v b)) v 0 a
    ∙ weighed-alike (λ i. weighted (λ n. g (mono_mul (power_of v i) n)) (terms_in v b)) (λ i. weighed (λ j. g (power_of v (i + j))) 0 b) 0 a
    (λ i.
    weighted-terms_from (λ n. g (mono_mul (power_of v i) n)) v 0 b
    ∙ weighed-alike (λ j. g (mono_mul (power_of v i) (power_of v j))) (λ j. g (power_of v (i + j))) 0 b (λ j. ap g (mono_mul-power_of v i j)))
    ∙ sym (weighed-times (λ k. g (power_of v k)) 0 a b)
    ∙ sym (weighted-terms_from g v 0 (times a b))

-- ---- coefficients

-- the powers below the first do not occur
written-below : (v i j : ℕ) (a : Coefficients) → i < j → written (terms_from v j a) (power_of v i) ≡ 0
written-below v i j [] below = refl
written-below v i j (c ∷ a) below =
    written-off (power_of v i) (c, power_of v j) (terms_from v (suc j) a) (power_of_other v j i (omega arith))
    ∙ written-below v i (suc j) a (omega arith)

written-terms_from : (v i k : ℕ) (a : Coefficients) → written (terms_from v i a) (power_of v (i + k)) ≡ coefficient_at a k
written-terms_from v i k [] = refl
written-terms_from v i zero (c ∷ a) =
    ap (λ n. written (terms_from v i (c ∷ a)) (power_of v n)) (let same : i + 0 ≡ i = omega arith in same)
    ∙ written-at (power_of v i) (c, power_of v i) (terms_from v (suc i) a) refl
    ∙ omega (arith, written-below v i (suc i) a (omega arith))
written-terms_from v i (suc k) (c ∷ a) =
    written-off (power_of v (i + suc k)) (c, power_of v i) (terms_from v (suc i) a) (power_of_other v i (i + suc k) (omega arith))
    ∙ ap (λ n. written (terms_from v (suc i) a) (power_of v n)) (let same : i + suc k ≡ suc i + k = omega arith in same)
    ∙ written-terms_from v (suc i) k a

coefficient-terms_in : (p v k : ℕ) (a : Coefficients) → coefficient p (terms_in v a) (power_of v k) ≡ coefficient_at a k % p
coefficient-terms_in p v k a =
    ap (λ n. coefficient p (terms_in v a) (power_of v n)) (let same : k ≡ 0 + k = omega arith in same)
    ∙ ap (λ n. n % p) (written-terms_from v 0 k a)

-- ---- the laws

pub same_in_ring : (p v : ℕ) (a b : Coefficients) → SameUnivariate p a b → SamePolynomial p (terms_in v a) (terms_in v b)
same_in_ring p v a b same =
    SamePolynomial-from_weighted p (terms_in v a) (terms_in v b)
    (λ g.
    ap (λ n. n % p) (weighted-terms_from g v 0 a) ∙ one_weighed p (λ j. g (power_of v j)) 0 a b same
    ∙ ap (λ n. n % p) (sym (weighted-terms_from g v 0 b)))

pub same_out_of_ring : (p v : ℕ) (a b : Coefficients) → SamePolynomial p (terms_in v a) (terms_in v b) → SameUnivariate p a b
same_out_of_ring p v a b same k =
    sym (coefficient-terms_in p v k a) ∙ same (power_of v k) ∙ coefficient-terms_in p v k b

pub sum_in_ring : (p v : ℕ) (a b : Coefficients) → SamePolynomial p (terms_in v (plus a b)) (terms_in v a ++ terms_in v b)
sum_in_ring p v a b =
    SamePolynomial-from_weighted p (terms_in v (plus a b)) (terms_in v a ++ terms_in v b)
    (λ g. ap (λ n. n % p)
    (weighted-terms_from g v 0 (plus a b)
    ∙ weighed-plus (λ j. g (power_of v j)) 0 a b
    ∙ ap₂ ◌+◌ (sym (weighted-terms_from g v 0 a)) (sym (weighted-terms_from g v 0 b))
    ∙ sym (weighted-append g (terms_in v a) (terms_in v b))))

pub product_in_ring : (p v : ℕ) (a b : Coefficients) → SamePolynomial p (terms_in v (times a b)) (product (terms_in v a) (terms_in v b))
product_in_ring p v a b =
    SamePolynomial-from_weighted p (terms_in v (times a b)) (product (terms_in v a) (terms_in v b))
    (λ g. ap (λ n. n % p) (sym (weighted-terms_product g v a b)))

pub value_in_ring : (p v : ℕ) (point : ℕ → ℕ) (a : Coefficients) → poly_value p point (terms_in v a) ≡ value_of p (point v) a
value_in_ring p v point a =
    ap (λ n. n % p)
    (value_sum-is_weighted point (terms_in v a)
    ∙ weighted-terms_from (mono_value point) v 0 a
    ∙ weighed-alike (λ j. mono_value point (power_of v j)) (λ j. point v ^ j) 0 a (mono_value-power_of point v)
    ∙ sym (sum_at-is_weighed (point v) a))
