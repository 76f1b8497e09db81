-- Products of polynomials in one variable commute, associate and distribute, and so do remainders modulo one of them.
use Rattle.std.proofs.Common.{ℕ, zero, suc, ◌%◌, [], ◌∷◌, ◌++◌, refl, sym, ap, ◌∙◌, arith}
use Rattle.ffc_ring.specs.Monomial.{IsMonomial}
use Rattle.ffc_ring.specs.Polynomial.{AreTerms, product}
use Rattle.ffc_ring.proofs.PolynomialLemmas.{same_products, same_sums, product_commutes, product_associates, product_distributes}
use Rattle.ffc_uni.specs.Univariate.{Coefficients, SameUnivariate, plus, times, power_of, terms_from, terms_in, IsRemainder}
use Rattle.ffc_uni.proofs.Coefficients.{coefficient_at-plus, plus_alike, times_alike_first, times_alike_second}
use Rattle.ffc_uni.proofs.RingLemmas.{product_in_ring, same_out_of_ring, sum_in_ring}

power_is_monomial : (v k : ℕ) → IsMonomial (power_of v k)
power_is_monomial v zero = tt
power_is_monomial v (suc k) = (omega arith, omega arith, tt)

terms_are : (v k : ℕ) (a : Coefficients) → AreTerms (terms_from v k a)
terms_are v k [] = tt
terms_are v k (c ∷ a) = (power_is_monomial v k, terms_are v (suc k) a)

pub times_commutes : (p : ℕ) (a b : Coefficients) → SameUnivariate p (times a b) (times b a)
times_commutes p a b =
    same_out_of_ring p 0 (times a b) (times b a)
    (λ m.
    product_in_ring p 0 a b m
    ∙ product_commutes p (terms_in 0 a) (terms_in 0 b) (terms_are 0 0 a) (terms_are 0 0 b) m
    ∙ sym (product_in_ring p 0 b a m))

pub times_associates : (p : ℕ) (a b c : Coefficients) → SameUnivariate p (times (times a b) c) (times a (times b c))
times_associates p a b c =
    let s = terms_in 0 a in
    let t = terms_in 0 b in
    let u = terms_in 0 c in
    same_out_of_ring p 0 (times (times a b) c) (times a (times b c))
    (λ m.
    product_in_ring p 0 (times a b) c m
    ∙ same_products p (terms_in 0 (times a b)) (product s t) u u (product_in_ring p 0 a b) (λ n. refl) m
    ∙ product_associates p s t u (terms_are 0 0 a) (terms_are 0 0 b) (terms_are 0 0 c) m
    ∙ same_products p s s (product t u) (terms_in 0 (times b c)) (λ n. refl) (λ n. sym (product_in_ring p 0 b c n)) m
    ∙ sym (product_in_ring p 0 a (times b c) m))

plus_associates : (p : ℕ) (a b c : Coefficients) → SameUnivariate p (plus (plus a b) c) (plus a (plus b c))
plus_associates p a b c k =
    ap (λ n. n % p)
    (omega (arith, coefficient_at-plus (plus a b) c k, coefficient_at-plus a b k, coefficient_at-plus a (plus b c) k, coefficient_at-plus b c k))

-- the first factor is a sum
pub times_distributes : (p : ℕ) (a b c : Coefficients) → SameUnivariate p (times (plus a b) c) (plus (times a c) (times b c))
times_distributes p a b c =
    let s = terms_in 0 a in
    let t = terms_in 0 b in
    let u = terms_in 0 c in
    same_out_of_ring p 0 (times (plus a b) c) (plus (times a c) (times b c))
    (λ m.
    product_in_ring p 0 (plus a b) c m
    ∙ same_products p (terms_in 0 (plus a b)) (s ++ t) u u (sum_in_ring p 0 a b) (λ n. refl) m
    ∙ product_distributes p s t u m
    ∙ same_sums p (product s u) (terms_in 0 (times a c)) (product t u) (terms_in 0 (times b c))
    (λ n. sym (product_in_ring p 0 a c n)) (λ n. sym (product_in_ring p 0 b c n)) m
    ∙ sym (sum_in_ring p 0 (times a c) (times b c) m))

-- the second factor is a sum
pub times_distributes_second : (p : ℕ) (a b c : Coefficients) → SameUnivariate p (times a (plus b c)) (plus (times a b) (times a c))
times_distributes_second p a b c k =
    times_commutes p a (plus b c) k
    ∙ times_distributes p b c a k
    ∙ plus_alike p (times b a) (times a b) (times c a) (times a c) (times_commutes p b a) (times_commutes p c a) k

-- a multiple of f times b is one
multiple_times : (p : ℕ) (q f b : Coefficients) → SameUnivariate p (times (times q f) b) (times (times q b) f)
multiple_times p q f b k =
    times_associates p q f b k
    ∙ times_alike_second p q (times f b) (times b f) (times_commutes p f b) k
    ∙ sym (times_associates p q b f k)

-- The product of two polynomials leaves modulo f what the product of their remainders leaves.
pub remainder_of_product : (p : ℕ) (f a b r s t : Coefficients) → IsRemainder p f a r → IsRemainder p f b s → IsRemainder p f (times r s) t → IsRemainder p f (times a b) t
remainder_of_product p f a b r s t first second third =
    let q = first.0 in
    let u = second.0 in
    let w = third.0 in
    let front : SameUnivariate p (times a b) (plus (times (times q b) f) (times r b)) = λ k.
    times_alike_first p a (plus (times q f) r) b first.1 k
    ∙ times_distributes p (times q f) r b k
    ∙ plus_alike p (times (times q f) b) (times (times q b) f) (times r b) (times r b) (multiple_times p q f b) (λ j. refl) k in
    let back : SameUnivariate p (times r b) (plus (times (times r u) f) (plus (times w f) t)) = λ k.
    times_alike_second p r b (plus (times u f) s) second.1 k
    ∙ times_distributes_second p r (times u f) s k
    ∙ plus_alike p (times r (times u f)) (times (times r u) f) (times r s) (plus (times w f) t)
    (λ j. sym (times_associates p r u f j)) third.1 k in
    let higher = times (times q b) f in
    let middle = times (times r u) f in (
      plus (plus (times q b) (times r u)) w,
      λ k.
          front k
          ∙ plus_alike p higher higher (times r b) (plus middle (plus (times w f) t)) (λ j. refl) back k
          ∙ sym (plus_associates p higher middle (plus (times w f) t) k)
          ∙ sym (plus_associates p (plus higher middle) (times w f) t k)
          ∙ plus_alike p (plus (plus higher middle) (times w f)) (times (plus (plus (times q b) (times r u)) w) f) t t
          (λ j.
          plus_alike p (plus higher middle) (times (plus (times q b) (times r u)) f) (times w f) (times w f)
          (λ i. sym (times_distributes p (times q b) (times r u) f i)) (λ i. refl) j
          ∙ sym (times_distributes p (plus (times q b) (times r u)) w f j))
          (λ j. refl) k,
    )

-- one polynomial has one remainder
pub remainder_alike : (p : ℕ) (f a b r : Coefficients) → SameUnivariate p a b → IsRemainder p f a r → IsRemainder p f b r
remainder_alike p f a b r same of = (of.0, λ k. sym (same k) ∙ of.1 k)

-- a polynomial leaves itself
pub remainder_itself : (p : ℕ) (f a r : Coefficients) → SameUnivariate p r a → IsRemainder p f a r
remainder_itself p f a r same = ([], λ k. sym (same k))
