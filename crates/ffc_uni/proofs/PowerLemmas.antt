-- Powers by squaring and multiplying over the binary digits of the exponent.
use Rattle.std.proofs.Common.{◌≡◌, ℕ, zero, suc, ◌+◌, ◌*◌, ◌/◌, ◌%◌, ◌^◌, Bool, true, false, ◌==◌, [], ◌∷◌, refl, sym, ap, ◌∙◌, subst, arith, mul_comm}
use Rattle.std.proofs.Math.Nat.{div-div-eq-div-mul, pow-succ'}
use Rattle.ffc_uni.specs.Univariate.{Coefficients, coefficient_at, SameUnivariate, multiple, times, raised, with_factor, IsRemainder}
use Rattle.ffc_uni.proofs.Coefficients.{coefficient_at-plus, coefficient_at-multiple, times_alike_second}
use Rattle.ffc_uni.proofs.DigitLemmas.{digit_value, digit_value-test}
use Rattle.ffc_uni.proofs.Products.{times_associates, remainder_alike}

coefficient_at-zero : (k : ℕ) → coefficient_at (0 ∷ []) k ≡ 0
coefficient_at-zero zero = refl
coefficient_at-zero (suc k) = refl

times_one : (p : ℕ) (b : Coefficients) → SameUnivariate p (times (1 ∷ []) b) b
times_one p b k =
    ap (λ n. n % p) (omega (arith, coefficient_at-plus (multiple 1 b) (0 ∷ []) k, coefficient_at-multiple 1 b k, coefficient_at-zero k))

raised_sum : (p : ℕ) (a : Coefficients) (m n : ℕ) → SameUnivariate p (raised a (m + n)) (times (raised a m) (raised a n))
raised_sum p a zero n k =
    ap (λ i. coefficient_at (raised a i) k % p) (let same : 0 + n ≡ n = omega arith in same) ∙ sym (times_one p (raised a n) k)
raised_sum p a (suc m) n k =
    ap (λ i. coefficient_at (raised a i) k % p) (let same : suc m + n ≡ suc (m + n) = omega arith in same)
    ∙ times_alike_second p a (raised a (m + n)) (times (raised a m) (raised a n)) (raised_sum p a m n) k
    ∙ sym (times_associates p a (raised a m) (raised a n) k)

-- one binary digit more in the exponent
raised_digit : (p : ℕ) (a : Coefficients) (n : ℕ) (d : Bool) → SameUnivariate p (with_factor a d (raised a n)) (raised a (2 * n + digit_value d))
raised_digit p a n false k =
    sym (raised_sum p a n n k) ∙ ap (λ i. coefficient_at (raised a i) k % p) (let same : n + n ≡ 2 * n + 0 = omega arith in same)
raised_digit p a n true k =
    times_alike_second p a (times (raised a n) (raised a n)) (raised a (n + n)) (λ j. sym (raised_sum p a n n j)) k
    ∙ ap (λ i. coefficient_at (raised a i) k % p) (let same : suc (n + n) ≡ 2 * n + 1 = omega arith in same)

halved : (e i : ℕ) → e / 2 ^ suc i ≡ e / 2 ^ i / 2
halved e i = ap (λ n. e / n) (pow-succ' 2 i ∙ mul_comm 2 (2 ^ i)) ∙ sym (div-div-eq-div-mul e (2 ^ i) 2)

-- the power so far, with one digit more
pub power_step : (p : ℕ) (f base power next : Coefficients) (e i : ℕ) (d : Bool) →
    IsRemainder p f (raised base (e / 2 ^ suc i)) power → d ≡ (e / 2 ^ i % 2 == 1)
    → ((a : Coefficients) → IsRemainder p f a power → IsRemainder p f (with_factor base d a) next)
    → IsRemainder p f (raised base (e / 2 ^ i)) next
power_step p f base power next e i d so_far digit step =
    let n = e / 2 ^ suc i in
    let bit : digit_value d ≡ e / 2 ^ i % 2 = ap digit_value digit ∙ digit_value-test (e / 2 ^ i % 2) (omega arith) in
    let whole : 2 * n + digit_value d ≡ e / 2 ^ i = omega (arith, halved e i) in
    subst (λ m. IsRemainder p f (raised base m) next) whole
    (remainder_alike p f (with_factor base d (raised base n)) (raised base (2 * n + digit_value d)) next (raised_digit p base n d) (step (raised base n) so_far))

-- before the first digit that is 1
pub power_waits : (p : ℕ) (f base power : Coefficients) (e i : ℕ) →
    IsRemainder p f (raised base (e / 2 ^ suc i)) power → e / 2 ^ i ≡ 0 → IsRemainder p f (raised base (e / 2 ^ i)) power
power_waits p f base power e i so_far none =
    let same : e / 2 ^ suc i ≡ e / 2 ^ i = omega (arith, halved e i) in
    subst (λ m. IsRemainder p f (raised base m) power) same so_far
