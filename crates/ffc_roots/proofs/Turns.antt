-- A residue that separates two roots of a polynomial gives a factor of it that has one of them and not the other: by Fermat's
-- theorem the power of a residue other than 0 to half of p - 1 is 1 or -1.
use Rattle.std.proofs.Common.{◌≡◌, ℕ, zero, suc, ◌+◌, ◌-◌, ◌*◌, ◌/◌, ◌%◌, ◌^◌, ◌<◌, ◌≤◌, ◌⊎◌, inl, inr, [], ◌∷◌, length, refl, sym, ap, ◌∙◌, arith, mod-eq_of_lt, mod-lt}
use Rattle.std.proofs.Math.Nat.{mod-mod, zero-mod, pow-zero, pow-succ'}
use Rattle.std.proofs.lemmas.Nat.{mul-mod, pow-mod, pow-add}
use Rattle.std.proofs.lemmas.Bool.{cases_lt, cases_eq}
use Rattle.ffc_field.specs.Modular.{IsPrime, add_mod, neg_mod, pow_mod}
use Rattle.ffc_field.proofs.Primes.{no_zero_divisors, fermat_one}
use Rattle.ffc_field.proofs.ModularLaws.{add_mod-cancel, add_mod-neg, add_mod-comm}
use Rattle.ffc_uni.specs.Univariate.{Coefficients, coefficient_at, SameUnivariate, IsNormal, IsRemainder, plus, minus, times, raised, sum_at, value_of}
use Rattle.ffc_uni.proofs.ValueLemmas.{sum_at-times, one_value, value_of-plus}
use Rattle.ffc_uni.proofs.Coefficients.{times_alike_first}
use Rattle.ffc_roots.specs.Roots.{IsRoot}
use Rattle.ffc_roots.specs.Divisors.{IsDivisor, IsCommonDivisor}
use Rattle.ffc_roots.specs.Separation.{Separates}
use Rattle.ffc_roots.proofs.RootLemmas.{combination_at}
use Rattle.ffc_roots.proofs.Identities.{cancel_number, minus_and_back}
use Rattle.ffc_roots.proofs.Degrees.{HasDegree, VanishesFrom, degree_of_normal, low_factor, vanishes_alike, vanishes_past_the_end, constant_left}
use Rattle.ffc_roots.proofs.FieldPolynomial.{zero_factor, zero_product, constant_zero}

-- ---- residues

-- a sum that is 0 has the negation as its other summand
pub negated : (p s c : ℕ) → s < p → c < p → add_mod p s c ≡ 0 → s ≡ neg_mod p c
negated p s c s_below c_below none =
    add_mod-cancel p s (neg_mod p c) c s_below (mod-lt (p - c) (omega arith)) (omega arith)
    (none ∙ sym (add_mod-comm p (neg_mod p c) c ∙ add_mod-neg p c (omega arith)))

-- a prime other than 2 is odd
odd_prime : (p : ℕ) → IsPrime p → 2 < p → p % 2 ≡ 1
odd_prime p prime more = elim (cases_eq (p % 2) 1) [
  | inl odd ↦ odd
  | inr even ↦ absurd (prime.undivided 2 (p / 2) (omega arith) more (omega arith))
]

square_root_of_one : (p u : ℕ) → IsPrime p → u < p → (u * u) % p ≡ 1 → (u ≡ 1) ⊎ (u ≡ p - 1)
square_root_of_one p zero prime below one = absurd (omega (arith, zero-mod p, one, (let none : 0 * 0 ≡ 0 = omega arith in ap (λ n. n % p) none)))
square_root_of_one p (suc u) prime below one =
    let some : 0 < p = omega (arith, prime.least) in
    let least : 1 % p ≡ 1 = mod-eq_of_lt (omega (arith, prime.least)) in
    let whole : suc u * suc u ≡ u * (u + 2) + 1 = omega arith in
    let start : (u * (u + 2) + 1) % p ≡ (0 + 1) % p = ap (λ n. n % p) (sym whole) ∙ one ∙ sym least ∙ (let same : 1 ≡ 0 + 1 = omega arith in ap (λ n. n % p) same) in
    let product : (u * (u + 2)) % p ≡ 0 = cancel_number p (u * (u + 2)) 0 1 some start ∙ zero-mod p in
    elim (no_zero_divisors p prime u (u + 2) product) [
      | inl first ↦ inl (let none : u ≡ 0 = sym (mod-eq_of_lt (omega arith)) ∙ first in omega arith)
      | inr second ↦ elim (cases_lt (u + 2) p) [
        | inl less ↦ absurd (let none : u + 2 ≡ 0 = sym (mod-eq_of_lt less) ∙ second in omega arith)
        | inr more ↦ elim (cases_eq (u + 2) p) [
          | inl all ↦ inr (omega arith)
          | inr over ↦ absurd (let next : suc u < p = below in omega arith)
        ]
      ]
    ]

-- Euler's criterion without the criterion: the power to half of p - 1 is 1 or -1
pub one_or_minus_one : (p y : ℕ) → IsPrime p → (y % p ≡ 0 → ⊥) → (pow_mod p y ((p - 1) / 2) ≡ 1) ⊎ (pow_mod p y ((p - 1) / 2) ≡ p - 1)
one_or_minus_one p y prime nonzero = elim (cases_lt 2 p) [
  | inr two ↦
      let half : (p - 1) / 2 ≡ 0 = omega (arith, prime.least) in
      inl (ap (λ e. y ^ e % p) half ∙ ap (λ n. n % p) (pow-zero y) ∙ mod-eq_of_lt (omega (arith, prime.least)))
  | inl more ↦
      let e = (p - 1) / 2 in
      let double : e + e ≡ p - 1 = omega (arith, odd_prime p prime more) in
      square_root_of_one p (pow_mod p y e) prime (mod-lt (y ^ e) (omega arith))
      (sym (mul-mod (y ^ e) (y ^ e) p) ∙ ap (λ n. n % p) (sym (pow-add y e e)) ∙ ap (λ n. y ^ n % p) double ∙ fermat_one p prime y nonzero)
]

-- ---- values of powers

sum_at-raised : (x : ℕ) (a : Coefficients) (n : ℕ) → sum_at x (raised a n) ≡ sum_at x a ^ n
sum_at-raised x a zero = (let one : 1 + x * 0 ≡ 1 = omega arith in one) ∙ sym (pow-zero (sum_at x a))
sum_at-raised x a (suc n) = sum_at-times x a (raised a n) ∙ ap (λ m. sum_at x a * m) (sum_at-raised x a n) ∙ sym (pow-succ' (sum_at x a) n)

-- at a root of the modulus a remainder has the value of what was divided
pub value_of_remainder : (p x : ℕ) (f a r : Coefficients) → IsRemainder p f a r → value_of p x f ≡ 0 → value_of p x r ≡ value_of p x a
value_of_remainder p x f a r remainder none =
    sym (one_value p x a (plus (times remainder.0 f) r) remainder.1
    ∙ value_of-plus p x (times remainder.0 f) r
    ∙ ap (λ n. add_mod p n (value_of p x r)) (zero_product p x remainder.0 f none)
    ∙ (let same : 0 + value_of p x r ≡ value_of p x r = omega arith in ap (λ n. n % p) same)
    ∙ mod-mod (sum_at x r) p)

pub value_of_power : (p x c e : ℕ) (f base r : Coefficients) → SameUnivariate p base (c ∷ 1 ∷ []) → IsRemainder p f (raised base e) r → value_of p x f ≡ 0
    → value_of p x r ≡ pow_mod p (x + c) e
value_of_power p x c e f base r same remainder none =
    value_of_remainder p x f (raised base e) r remainder none
    ∙ ap (λ n. n % p) (sum_at-raised x base e)
    ∙ sym (pow-mod (sum_at x base) e p)
    ∙ ap (λ n. n ^ e % p) (one_value p x base (c ∷ 1 ∷ []) same ∙ (let sum : c + x * (1 + x * 0) ≡ x + c = omega arith in ap (λ n. n % p) sum))
    ∙ pow-mod (x + c) e p

-- ---- the factor

-- the power less 1 is 0 where the power is 1
less_one : (p x : ℕ) (r other one : Coefficients) → IsPrime p → SameUnivariate p one (1 ∷ []) → SameUnivariate p other (minus p r one)
    → (value_of p x r ≡ 1 → value_of p x other ≡ 0) × (value_of p x other ≡ 0 → value_of p x r ≡ 1)
less_one p x r other one prime unit difference =
    let some : 0 < p = omega (arith, prime.least) in
    let least : 1 % p ≡ 1 = mod-eq_of_lt (omega (arith, prime.least)) in
    let single : value_of p x one ≡ 1 = one_value p x one (1 ∷ []) unit ∙ (let value : 1 + x * 0 ≡ 1 = omega arith in ap (λ n. n % p) value) ∙ least in
    let sum : (value_of p x other + 1) % p ≡ value_of p x r =
    ap (λ n. (value_of p x other + n) % p) (sym single)
    ∙ ap (λ n. add_mod p n (value_of p x one)) (one_value p x other (minus p r one) difference)
    ∙ sym (value_of-plus p x (minus p r one) one)
    ∙ one_value p x (plus (minus p r one) one) r (minus_and_back p r one some) in (
      λ is.
          let start : (value_of p x other + 1) % p ≡ (0 + 1) % p = sum ∙ is ∙ sym least ∙ (let same : 1 ≡ 0 + 1 = omega arith in ap (λ n. n % p) same) in
          sym (mod-mod (sum_at x other) p) ∙ cancel_number p (value_of p x other) 0 1 some start ∙ zero-mod p,
      λ none. sym sum ∙ ap (λ n. (n + 1) % p) none ∙ (let same : 0 + 1 ≡ 1 = omega arith in ap (λ n. n % p) same) ∙ least,
    )

-- a divisor that has one root of g and not another is neither constant nor as long as g
pub proper_divisor : (p s t : ℕ) (g d : Coefficients) → IsPrime p → IsNormal p g → 1 ≤ length g → IsNormal p d → IsDivisor p d g
    → value_of p s d ≡ 0 → (value_of p t d ≡ 0 → ⊥) → value_of p t g ≡ 0 → (2 ≤ length d) × (length d < length g)
proper_divisor p s t g [] prime g_normal some d_normal divides at_s at_t root = absurd (at_t (zero-mod p))
proper_divisor p s t g (c ∷ []) prime g_normal some d_normal divides at_s at_t root =
    absurd (d_normal.1 (sym (mod-eq_of_lt d_normal.0) ∙ (let value : c ≡ c + s * 0 = omega arith in ap (λ n. n % p) value) ∙ at_s))
proper_divisor p s t g (c ∷ e ∷ d) prime g_normal some d_normal divides at_s at_t root =
    let whole = c ∷ e ∷ d in
    let n = suc (length d) in
    let q = divides.0 in (
      omega arith,
      elim (cases_lt (length whole) (length g)) [
        | inl less ↦ less
        | inr long ↦
            let degree : HasDegree p n whole = degree_of_normal p whole n d_normal refl in
            let low : VanishesFrom p 1 q = low_factor p q whole n 1 prime degree (vanishes_alike p (1 + n) g (times q whole) divides.1 (vanishes_past_the_end p g (1 + n) (omega arith))) in
            let constant : SameUnivariate p q (coefficient_at q 0 ∷ []) = constant_left p q low in
            elim (zero_factor p t q whole prime (sym (one_value p t g (times q whole) divides.1) ∙ root)) [
              | inr there ↦ absurd (at_t there)
              | inl none ↦
                  let q0 = coefficient_at q 0 in
                  let zero_is : q0 % p ≡ 0 = (let value : q0 ≡ q0 + t * 0 = omega arith in ap (λ m. m % p) value) ∙ sym (one_value p t q (q0 ∷ []) constant) ∙ none in
                  let nothing : SameUnivariate p g [] = λ j. divides.1 j ∙ times_alike_first p q [] whole (λ i. constant i ∙ constant_zero p q0 zero_is i) j in
                  absurd ((degree_of_normal p g (length g - 1) g_normal (omega arith)).leads (nothing (length g - 1) ∙ zero-mod p))
            ]
      ],
    )

-- where the power is 1 at one root and not at the other
divided_at : (p s t c e : ℕ) (g base r one other b d : Coefficients) → IsPrime p → IsNormal p g → 1 ≤ length g → IsNormal p d
    → SameUnivariate p base (c ∷ 1 ∷ []) → IsRemainder p g (raised base e) r → SameUnivariate p one (1 ∷ []) → SameUnivariate p other (minus p r one)
    → IsCommonDivisor p g other b d → value_of p s g ≡ 0 → value_of p t g ≡ 0 → pow_mod p (s + c) e ≡ 1 → (pow_mod p (t + c) e ≡ 1 → ⊥)
    → (2 ≤ length d) × (length d < length g)
divided_at p s t c e g base r one other b d prime g_normal some d_normal linear remainder unit difference common s_root t_root s_one t_other =
    let at_s : value_of p s other ≡ 0 = (less_one p s r other one prime unit difference).0 (value_of_power p s c e g base r linear remainder s_root ∙ s_one) in
    proper_divisor p s t g d prime g_normal some d_normal common.of_first
    (combination_at p s g other common.bezout.0 b d (omega (arith, prime.least)) common.bezout.1 s_root at_s)
    (λ there.
    let at_t : value_of p t other ≡ 0 = one_value p t other (times common.of_second.0 d) common.of_second.1 ∙ zero_product p t common.of_second.0 d there in
    t_other (sym (value_of_power p t c e g base r linear remainder t_root) ∙ (less_one p t r other one prime unit difference).1 at_t))
    t_root

-- What c separates is divided, where -c is no root.
pub separated_divides : (p s t c : ℕ) (g base r one other b d : Coefficients) → IsPrime p → c < p → IsNormal p g → 1 ≤ length g → IsNormal p d
    → SameUnivariate p base (c ∷ 1 ∷ []) → IsRemainder p g (raised base ((p - 1) / 2)) r → SameUnivariate p one (1 ∷ []) → SameUnivariate p other (minus p r one)
    → IsCommonDivisor p g other b d → (value_of p (neg_mod p c) g ≡ 0 → ⊥) → IsRoot p g s → IsRoot p g t → Separates p c s t
    → (2 ≤ length d) × (length d < length g)
separated_divides p s t c g base r one other b d prime below g_normal some d_normal linear remainder unit difference common no_root s_root t_root separates =
    let e = (p - 1) / 2 in
    let not_zero : (x : ℕ) → IsRoot p g x → (x + c) % p ≡ 0 → ⊥ = λ x root none. no_root (ap (λ n. value_of p n g) (sym (negated p x c root.0 below none)) ∙ root.1) in
    elim separates [
      | inl first ↦ absurd (not_zero s s_root first)
      | inr rest ↦ elim rest [
        | inl second ↦ absurd (not_zero t t_root second)
        | inr differ ↦ elim (cases_eq (pow_mod p (s + c) e) 1) [
          | inl one_at_s ↦
              divided_at p s t c e g base r one other b d prime g_normal some d_normal linear remainder unit difference common s_root.1 t_root.1 one_at_s
              (λ one_at_t. differ (one_at_s ∙ sym one_at_t))
          | inr not_at_s ↦ elim (one_or_minus_one p (t + c) prime (not_zero t t_root)) [
            | inl one_at_t ↦ divided_at p t s c e g base r one other b d prime g_normal some d_normal linear remainder unit difference common t_root.1 s_root.1 one_at_t not_at_s
            | inr minus_at_t ↦ elim (one_or_minus_one p (s + c) prime (not_zero s s_root)) [
              | inl one_at_s ↦ absurd (not_at_s one_at_s)
              | inr minus_at_s ↦ absurd (differ (minus_at_s ∙ sym minus_at_t))
            ]
          ]
        ]
      ]
    ]
