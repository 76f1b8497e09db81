-- The cofactors with which a common divisor is a product of factors X - root.
use Rattle.std.proofs.Common.{◌≡◌, ◌≢◌, ℕ, zero, suc, ◌-◌, ◌*◌, ◌%◌, ◌<◌, ◌≤◌, List, [], ◌∷◌, length, All, inl, inr, refl, sym, ap, ◌∙◌, arith, mod-eq_of_lt}
use Rattle.std.proofs.Math.Nat.{zero-mod}
use Rattle.std.proofs.lemmas.Nat.{mul-mod_first}
use Rattle.std.proofs.lemmas.Bool.{cases_lt}
use Rattle.ffc_field.specs.Modular.{IsPrime, mul_mod}
use Rattle.ffc_field.proofs.Primes.{zero_multiple}
use Rattle.ffc_uni.specs.Univariate.{Coefficients, coefficient_at, SameUnivariate, IsNormal, plus, minus, multiple, times, product_of_roots, value_of, sum_at}
use Rattle.ffc_uni.proofs.ValueLemmas.{sum_at-plus, sum_at-multiple, sum_at-times, one_value}
use Rattle.ffc_uni.proofs.Coefficients.{coefficient_at-multiple, multiple_alike, multiple_by_one, plus_alike, times_alike_first}
use Rattle.ffc_roots.specs.Roots.{IsCombination}
use Rattle.ffc_roots.specs.Divisors.{IsDivisor, IsBezout}
use Rattle.ffc_roots.specs.Parts.{AreRising, HasRoots}
use Rattle.ffc_roots.proofs.Identities.{by_values, minus_and_back, moved, factor}
use Rattle.ffc_roots.proofs.Degrees.{HasDegree, degree_of_normal, none_past_the_end, exact}
use Rattle.ffc_roots.proofs.FieldPolynomial.{none_above_roots, roots_lead, commuted, zero_product, factor_at_root}

-- there are as many roots as the degree says
pub count_of_roots : (p : ℕ) (g : Coefficients) (roots : List ℕ) (n : ℕ) → IsNormal p g → suc n ≡ length g → HasRoots p g roots → length roots ≡ n
count_of_roots p g roots n normal long has =
    let degree : HasDegree p n g = degree_of_normal p g n normal long in
    let c = has.0 in
    let product = product_of_roots p roots in
    let at : (k : ℕ) → coefficient_at g k % p ≡ (c * coefficient_at product k) % p = λ k. has.1 k ∙ ap (λ m. m % p) (coefficient_at-multiple c product k) in
    elim (cases_lt (length roots) n) [
      | inl few ↦ absurd (degree.leads (at n ∙ ap (λ m. (c * m) % p) (none_above_roots p roots n few) ∙ zero_multiple p c 0 (zero-mod p)))
      | inr enough ↦ elim (cases_lt n (length roots)) [
        | inr exact ↦ omega arith
        | inl many ↦
            let m = length roots in
            let none : c % p ≡ 0 =
            (let one : c ≡ c * 1 = omega arith in ap (λ k. k % p) one) ∙ ap (λ k. (c * k) % p) (sym (roots_lead p roots)) ∙ sym (at m) ∙ ap (λ k. k % p) (none_past_the_end g m (omega arith)) ∙ zero-mod p in
            absurd (degree.leads (at n ∙ (let order : c * coefficient_at product n ≡ coefficient_at product n * c = omega arith in ap (λ k. k % p) order) ∙ zero_multiple p (coefficient_at product n) c none))
      ]
    ]

-- times the inverse of its leading coefficient it is the product
pub scaled_to_product : (p inverse : ℕ) (g : Coefficients) (roots : List ℕ) → IsPrime p → IsNormal p g → g ≢ [] → HasRoots p g roots → mul_mod p (coefficient_at g (length g - 1)) inverse ≡ 1
    → SameUnivariate p (multiple inverse g) (product_of_roots p roots)
scaled_to_product p inverse [] roots prime normal some has unit = absurd (some refl)
scaled_to_product p inverse (d ∷ ds) roots prime normal some has unit =
    let g = d ∷ ds in
    let n = length ds in
    let c = has.0 in
    let product = product_of_roots p roots in
    let count : length roots ≡ n = count_of_roots p g roots n normal refl has in
    let top : coefficient_at g n % p ≡ c % p =
    has.1 n ∙ ap (λ m. m % p) (coefficient_at-multiple c product n ∙ ap (λ k. c * coefficient_at product k) (sym count) ∙ ap (λ k. c * k) (roots_lead p roots) ∙ (let one : c * 1 ≡ c = omega arith in one)) in
    let last : length g - 1 ≡ n = omega arith in
    let whole : (c * inverse) % p ≡ 1 =
    sym (mul-mod_first c inverse p) ∙ ap (λ m. (m * inverse) % p) (sym top) ∙ mul-mod_first (coefficient_at g n) inverse p ∙ ap (λ k. (coefficient_at g k * inverse) % p) (sym last) ∙ unit in
    let least : 1 % p ≡ 1 = mod-eq_of_lt (omega (arith, prime.least)) in
    λ k.
    multiple_alike p inverse g (multiple c product) has.1 k
    ∙ by_values p (multiple inverse (multiple c product)) (multiple (c * inverse) product) (λ x. simp sum_at-multiple (omega arith)) k
    ∙ multiple_by_one p (c * inverse) product (whole ∙ sym least) k

-- The cofactor of h is reduced modulo f, and the other one is the quotient of what is left.
pub cofactors_combine : (p inverse : ℕ) (f h b0 g b1 q b t product rest a r : Coefficients) (roots : List ℕ) (n : ℕ) → IsPrime p → HasDegree p n f → IsBezout p f h b0 g
    → SameUnivariate p (multiple inverse g) (product_of_roots p roots) → SameUnivariate p b1 (multiple inverse b0) → SameUnivariate p b1 (plus (times q f) b)
    → SameUnivariate p t (times b h) → SameUnivariate p product (product_of_roots p roots) → SameUnivariate p rest (minus p product t)
    → SameUnivariate p rest (plus (times a f) r) → length r ≤ n → IsCombination p f h a b (product_of_roots p roots)
cofactors_combine p inverse f h b0 g b1 q b t product rest a r roots n prime degree bezout scaled cofactor reduced shifted_is product_is difference division short =
    let some : 0 < p = omega (arith, prime.least) in
    let a0 = bezout.0 in
    let whole = plus (multiple inverse a0) (times q h) in
    let sum : SameUnivariate p (plus (times whole f) t) product = λ k.
    plus_alike p (times whole f) (times whole f) t (times b h) (λ j. refl) shifted_is k
    ∙ by_values p (plus (times whole f) (times b h)) (plus (times (multiple inverse a0) f) (times (plus (times q f) b) h)) (λ x. simp (sum_at-plus, sum_at-multiple, sum_at-times) (omega arith)) k
    ∙ plus_alike p (times (multiple inverse a0) f) (times (multiple inverse a0) f) (times (plus (times q f) b) h) (times (multiple inverse b0) h) (λ j. refl)
    (times_alike_first p (plus (times q f) b) (multiple inverse b0) h (λ j. sym (reduced j) ∙ cofactor j)) k
    ∙ by_values p (plus (times (multiple inverse a0) f) (times (multiple inverse b0) h)) (multiple inverse (plus (times a0 f) (times b0 h))) (λ x. simp (sum_at-plus, sum_at-multiple, sum_at-times) (omega arith)) k
    ∙ multiple_alike p inverse (plus (times a0 f) (times b0 h)) g bezout.1 k
    ∙ scaled k
    ∙ sym (product_is k) in
    let divisible : SameUnivariate p rest (times whole f) = λ k. difference k ∙ sym (moved p product t (times whole f) some sum k) in
    let quotient : SameUnivariate p rest (times a f) = exact p rest f a whole r n prime degree division divisible short in
    λ k.
    plus_alike p (times a f) (minus p product t) (times b h) t (λ j. sym (quotient j) ∙ difference j) (λ j. sym (shifted_is j)) k
    ∙ minus_and_back p product t some k
    ∙ product_is k

-- ---- the roots of the product

product_vanishes : (p m : ℕ) (roots : List ℕ) → AreRising p m roots → All (λ x. value_of p x (product_of_roots p roots) ≡ 0) roots
product_vanishes p m [] rising k d within = absurd (omega arith)
product_vanishes p m (x ∷ roots) rising zero d within =
    let rest = product_of_roots p roots in
    one_value p x (times (factor p x) rest) (times rest (factor p x)) (commuted p (factor p x) rest) ∙ zero_product p x rest (factor p x) (factor_at_root p x (omega (arith, rising.1)))
product_vanishes p m (x ∷ roots) rising (suc k) d within =
    zero_product p _ (factor p x) (product_of_roots p roots) (product_vanishes p (suc x) roots rising.2 k d (omega arith))

pub roots_vanish : (p m : ℕ) (f g : Coefficients) (roots : List ℕ) → AreRising p m roots → HasRoots p g roots → IsDivisor p g f → All (λ x. value_of p x f ≡ 0) roots
roots_vanish p m f g roots rising has divides k d within =
    let none = product_vanishes p m roots rising k d within in
    one_value p _ f (times divides.0 g) divides.1
    ∙ zero_product p _ divides.0 g
    (one_value p _ g (multiple has.0 (product_of_roots p roots)) has.1 ∙ ap (λ n. n % p) (sum_at-multiple _ has.0 (product_of_roots p roots)) ∙ zero_multiple p has.0 (sum_at _ (product_of_roots p roots)) none)
