-- Degrees of products of polynomials in one variable modulo a prime, and what divisions leave.
use Rattle.std.proofs.Common.{◌≡◌, ℕ, zero, suc, ◌+◌, ◌-◌, ◌*◌, ◌%◌, ◌<◌, ◌≤◌, ◌⊎◌, inl, inr, [], ◌∷◌, length, refl, sym, ap, ◌∙◌, arith, mod-eq_of_lt}
use Rattle.std.proofs.Math.Nat.{mod-mod, add-mod, zero-mod}
use Rattle.std.proofs.lemmas.Bool.{cases_lt, cases_eq}
use Rattle.ffc_field.specs.Modular.{IsPrime}
use Rattle.ffc_field.proofs.Primes.{no_zero_divisors, zero_multiple}
use Rattle.ffc_uni.specs.Univariate.{Coefficients, coefficient_at, SameUnivariate, IsNormal, plus, minus, multiple, times}
use Rattle.ffc_uni.proofs.ValueLemmas.{sum_at-plus, sum_at-times}
use Rattle.ffc_uni.proofs.Coefficients.{coefficient_at-plus, coefficient_at-multiple, plus_alike, times_alike_first}
use Rattle.ffc_roots.proofs.Identities.{by_values, cancel_sum, minus_and_back}

-- the coefficients from X^k on are 0
abbrev pub VanishesFrom : ℕ → ℕ → Coefficients → Type 0
VanishesFrom p k a = (j : ℕ) → k ≤ j → coefficient_at a j % p ≡ 0

pub none_past_the_end : (a : Coefficients) (k : ℕ) → length a ≤ k → coefficient_at a k ≡ 0
none_past_the_end [] k h = refl
none_past_the_end (c ∷ a) zero h = absurd (omega arith)
none_past_the_end (c ∷ a) (suc k) h = none_past_the_end a k (omega arith)

pub vanishes_past_the_end : (p : ℕ) (a : Coefficients) (k : ℕ) → length a ≤ k → VanishesFrom p k a
vanishes_past_the_end p a k short j above = ap (λ n. n % p) (none_past_the_end a j (omega arith)) ∙ zero-mod p

pub vanishes_alike : (p k : ℕ) (a b : Coefficients) → SameUnivariate p a b → VanishesFrom p k a → VanishesFrom p k b
vanishes_alike p k a b same none j above = sym (same j) ∙ none j above

pub vanishes_all : (p : ℕ) (a : Coefficients) → VanishesFrom p 0 a → SameUnivariate p a []
vanishes_all p a none j = none j (omega arith) ∙ sym (zero-mod p)

-- a polynomial that is 0 past the constant one
pub constant_left : (p : ℕ) (a : Coefficients) → VanishesFrom p 1 a → SameUnivariate p a (coefficient_at a 0 ∷ [])
constant_left p a none zero = refl
constant_left p a none (suc k) = none (suc k) (omega arith) ∙ sym (zero-mod p)

zero_sum : (p x y : ℕ) → x % p ≡ 0 → (x + y) % p ≡ y % p
zero_sum p x y none =
    add-mod x y p ∙ ap (λ n. (n + y % p) % p) none ∙ (let same : 0 + y % p ≡ y % p = omega arith in ap (λ n. n % p) same) ∙ mod-mod y p

-- the leading coefficients are multiplied
pub leading_product : (p : ℕ) (a b : Coefficients) (i n : ℕ) → VanishesFrom p (suc i) a → VanishesFrom p (suc n) b
    → coefficient_at (times a b) (i + n) % p ≡ (coefficient_at a i * coefficient_at b n) % p
leading_product p [] b i n a_low b_low = ap (λ m. m % p) (let none : 0 ≡ 0 * coefficient_at b n = omega arith in none)
leading_product p (x ∷ a) b zero n a_low b_low =
    let rest : SameUnivariate p a [] = vanishes_all p a (λ j _. a_low (suc j) (omega arith)) in
    let none : (k : ℕ) → coefficient_at (0 ∷ times a b) k % p ≡ 0 = elim [
      | zero ↦ zero-mod p
      | suc k ↦ times_alike_first p a [] b rest k ∙ zero-mod p
    ] in
    let same : 0 + n ≡ n = omega arith in
    ap (λ k. coefficient_at (times (x ∷ a) b) k % p) same
    ∙ ap (λ m. m % p) (coefficient_at-plus (multiple x b) (0 ∷ times a b) n ∙ (let swap : coefficient_at (multiple x b) n + coefficient_at (0 ∷ times a b) n ≡ coefficient_at (0 ∷ times a b) n + coefficient_at (multiple x b) n = omega arith in swap))
    ∙ zero_sum p (coefficient_at (0 ∷ times a b) n) (coefficient_at (multiple x b) n) (none n)
    ∙ ap (λ m. m % p) (coefficient_at-multiple x b n)
leading_product p (x ∷ a) b (suc i) n a_low b_low =
    let above : coefficient_at b (suc (i + n)) % p ≡ 0 = b_low (suc (i + n)) (omega arith) in
    let first : coefficient_at (multiple x b) (suc (i + n)) % p ≡ 0 = ap (λ m. m % p) (coefficient_at-multiple x b (suc (i + n))) ∙ zero_multiple p x (coefficient_at b (suc (i + n))) above in
    let same : suc i + n ≡ suc (i + n) = omega arith in
    ap (λ k. coefficient_at (times (x ∷ a) b) k % p) same
    ∙ ap (λ m. m % p) (coefficient_at-plus (multiple x b) (0 ∷ times a b) (suc (i + n)))
    ∙ zero_sum p (coefficient_at (multiple x b) (suc (i + n))) (coefficient_at (times a b) (i + n)) first
    ∙ leading_product p a b i n (λ j above. a_low (suc j) (omega arith)) b_low

-- b has its leading coefficient at X^n
pub record HasDegree (p n : ℕ) (b : Coefficients) : Type 0 where
  pub low : VanishesFrom p (suc n) b
  pub leads : coefficient_at b n % p ≡ 0 → ⊥

-- a polynomial is 0 or has a degree
pub degree_of : (p : ℕ) (a : Coefficients) → (SameUnivariate p a []) ⊎ ((n : ℕ) × HasDegree p n a)
degree_of p [] = inl (λ k. refl)
degree_of p (c ∷ a) = elim (degree_of p a) [
  | inl none ↦ elim (cases_eq (c % p) 0) [
    | inl zero_is ↦ inl (λ k. elim k as (λ j. coefficient_at (c ∷ a) j % p ≡ 0 % p) [ zero ↦ zero_is ∙ sym (zero-mod p) | suc j ↦ none j ])
    | inr some ↦ inr (0, record { low = λ j above. later p c a j above (λ i. none i ∙ zero-mod p); leads = λ e. absurd (omega arith) })
  ]
  | inr some ↦ inr (suc some.0, record { low = λ j above. later_from p c a some.0 j above some.1.low; leads = some.1.leads })
]
  where
    later : (p c : ℕ) (a : Coefficients) (j : ℕ) → 1 ≤ j → ((i : ℕ) → coefficient_at a i % p ≡ 0) → coefficient_at (c ∷ a) j % p ≡ 0
    later p c a zero above none = absurd (omega arith)
    later p c a (suc j) above none = none j

    later_from : (p c : ℕ) (a : Coefficients) (n j : ℕ) → suc (suc n) ≤ j → VanishesFrom p (suc n) a → coefficient_at (c ∷ a) j % p ≡ 0
    later_from p c a n zero above none = absurd (omega arith)
    later_from p c a n (suc j) above none = none j (omega arith)

-- a normal list has the degree that its length says
leading_coefficient : (p : ℕ) (a : Coefficients) (n : ℕ) → IsNormal p a → suc n ≡ length a → coefficient_at a n % p ≡ 0 → ⊥
leading_coefficient p [] n normal long none = absurd (omega arith)
leading_coefficient p (c ∷ []) zero normal long none = normal.1 (sym (mod-eq_of_lt normal.0) ∙ none)
leading_coefficient p (c ∷ []) (suc n) normal long none = absurd (omega arith)
leading_coefficient p (c ∷ d ∷ a) zero normal long none = absurd (omega arith)
leading_coefficient p (c ∷ d ∷ a) (suc n) normal long none = leading_coefficient p (d ∷ a) n normal.1 (omega arith) none

pub degree_of_normal : (p : ℕ) (a : Coefficients) (n : ℕ) → IsNormal p a → suc n ≡ length a → HasDegree p n a
degree_of_normal p a n normal long = record { low = vanishes_past_the_end p a (suc n) (omega arith); leads = leading_coefficient p a n normal long }

-- a factor is as low as the product says
pub factor_is_low : (p : ℕ) (q b : Coefficients) (n e m k : ℕ) → IsPrime p → HasDegree p n b → VanishesFrom p (e + n) (times q b) → length q ≤ m + k → e ≤ k → VanishesFrom p k q
factor_is_low p q b n e zero k prime degree low short above = vanishes_past_the_end p q k (omega arith)
factor_is_low p q b n e (suc m) k prime degree low short above = λ j from.
    let higher : VanishesFrom p (suc k) q = factor_is_low p q b n e m (suc k) prime degree low (omega arith) (omega arith) in
    elim (cases_lt k j) [
      | inl later ↦ higher j (omega arith)
      | inr here ↦
          let product : (coefficient_at q k * coefficient_at b n) % p ≡ 0 =
          sym (leading_product p q b k n higher degree.low) ∙ low (k + n) (omega arith) in
          let same : k ≡ j = omega arith in
          elim (no_zero_divisors p prime (coefficient_at q k) (coefficient_at b n) product) [
            | inl first ↦ ap (λ i. coefficient_at q i % p) (sym same) ∙ first
            | inr second ↦ absurd (degree.leads second)
          ]
    ]

pub low_factor : (p : ℕ) (q b : Coefficients) (n e : ℕ) → IsPrime p → HasDegree p n b → VanishesFrom p (e + n) (times q b) → VanishesFrom p e q
low_factor p q b n e prime degree low = λ j from. factor_is_low p q b n e (length q) e prime degree low (omega arith) (omega arith) j from

-- What is divisible leaves no remainder.
pub exact : (p : ℕ) (f b q k r : Coefficients) (n : ℕ) → IsPrime p → HasDegree p n b → SameUnivariate p f (plus (times q b) r) → SameUnivariate p f (times k b) → length r ≤ n
    → SameUnivariate p f (times q b)
exact p f b q k r n prime degree division divisible short =
    let some : 0 < p = omega (arith, prime.least) in
    let d = minus p k q in
    let left : SameUnivariate p (times d b) r =
    cancel_sum p (times d b) r (times q b) some (λ j.
    by_values p (plus (times d b) (times q b)) (times (plus d q) b) (λ x. simp (sum_at-plus, sum_at-times) (omega arith)) j
    ∙ times_alike_first p (plus d q) k b (minus_and_back p k q some) j
    ∙ sym (divisible j)
    ∙ division j
    ∙ by_values p (plus (times q b) r) (plus r (times q b)) (λ x. simp (sum_at-plus) (omega arith)) j) in
    let none : SameUnivariate p d [] = vanishes_all p d (low_factor p d b n 0 prime degree (vanishes_alike p (0 + n) r (times d b) (λ j. sym (left j)) (vanishes_past_the_end p r (0 + n) (omega arith)))) in
    let nothing : SameUnivariate p r [] = λ j. sym (left j) ∙ times_alike_first p d [] b none j in
    λ j.
    division j
    ∙ by_values p (plus (times q b) r) (plus r (times q b)) (λ x. simp (sum_at-plus) (omega arith)) j
    ∙ plus_alike p r [] (times q b) (times q b) nothing (λ i. refl) j

-- a divisor of a polynomial other than 0 is not longer
pub divisor_is_short : (p : ℕ) (f g q : Coefficients) → IsPrime p → IsNormal p f → IsNormal p g → 1 ≤ length f → SameUnivariate p f (times q g) → length g ≤ length f
divisor_is_short p f g q prime f_normal g_normal some same = elim (cases_lt (length f) (length g)) [
  | inr short ↦ short
  | inl long ↦
      let n = length g - 1 in
      let degree : HasDegree p n g = degree_of_normal p g n g_normal (omega arith) in
      let none : SameUnivariate p q [] = vanishes_all p q (low_factor p q g n 0 prime degree (vanishes_alike p (0 + n) f (times q g) same (vanishes_past_the_end p f (0 + n) (omega arith)))) in
      let m = length f - 1 in
      absurd (leading_coefficient p f m f_normal (omega arith) (same m ∙ times_alike_first p q [] g none m ∙ zero-mod p))
]

-- a factor that has a degree is cancelled
pub cancel_factor : (p : ℕ) (a b f : Coefficients) (n : ℕ) → IsPrime p → HasDegree p n f → SameUnivariate p (times a f) (times b f) → SameUnivariate p a b
cancel_factor p a b f n prime degree same =
    let some : 0 < p = omega (arith, prime.least) in
    let d = minus p a b in
    let none : SameUnivariate p (times d f) [] =
    cancel_sum p (times d f) [] (times b f) some (λ j.
    by_values p (plus (times d f) (times b f)) (times (plus d b) f) (λ x. simp (sum_at-plus, sum_at-times) (omega arith)) j
    ∙ times_alike_first p (plus d b) a f (minus_and_back p a b some) j
    ∙ same j) in
    let nothing : SameUnivariate p d [] = vanishes_all p d (low_factor p d f n 0 prime degree (λ j _. none j ∙ zero-mod p)) in
    λ j. sym (minus_and_back p a b some j) ∙ plus_alike p d [] b b nothing (λ i. refl) j

-- X + c has two coefficients
pub two_coefficients : (p c : ℕ) (a : Coefficients) → 1 < p → SameUnivariate p a (c ∷ 1 ∷ []) → length a ≤ 2 → length a ≡ 2
two_coefficients p c a two same short = elim (cases_lt 1 (length a)) [
  | inl long ↦ omega arith
  | inr none ↦ absurd (let one : 1 % p ≡ 1 = mod-eq_of_lt two in omega (arith, sym (same 1), ap (λ n. n % p) (none_past_the_end a 1 none), zero-mod p))
]
