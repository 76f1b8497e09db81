-- Identities of polynomials in one variable, and what they give modulo p: cancellation, roots as factors, and degrees.
use Rattle.std.proofs.Common.{◌≡◌, ℕ, zero, suc, ◌+◌, ◌-◌, ◌*◌, ◌%◌, ◌<◌, ◌≤◌, inl, inr, [], ◌∷◌, refl, sym, ap, ◌∙◌, arith, mod-eq_of_lt, mod-lt}
use Rattle.std.proofs.Math.Nat.{mod-mod, add-mod, mul-mod_right, zero-mod, add-mul-mod_self_left, mul-le-mul_left}
use Rattle.std.proofs.lemmas.Bool.{cases_lt}
use Rattle.ffc_ring.proofs.PolynomialLemmas.{cancel_mod}
use Rattle.ffc_uni.specs.Univariate.{Coefficients, coefficient_at, SameUnivariate, plus, minus, multiple, times, sum_at, value_of}
use Rattle.ffc_uni.proofs.ValueLemmas.{sum_at-plus, sum_at-multiple}
use Rattle.ffc_uni.proofs.Coefficients.{coefficient_at-plus, coefficient_at-multiple, plus_alike}

-- ---- equal values

abbrev rest_of : Coefficients → Coefficients
rest_of [] = []
rest_of (c ∷ a) = a

first_and_rest : (x : ℕ) (a : Coefficients) → sum_at x a ≡ coefficient_at a 0 + x * sum_at x (rest_of a)
first_and_rest x [] = omega arith
first_and_rest x (c ∷ a) = refl

coefficient_at-rest : (a : Coefficients) (k : ℕ) → coefficient_at a (suc k) ≡ coefficient_at (rest_of a) k
coefficient_at-rest [] k = refl
coefficient_at-rest (c ∷ a) k = refl

-- the lowest digit in a base
lowest : (x c d a b : ℕ) → c < x → d < x → c + x * a ≡ d + x * b → c ≡ d
lowest x c d a b c_below d_below same =
    sym (mod-eq_of_lt c_below) ∙ sym (add-mul-mod_self_left c x a) ∙ ap (λ n. n % x) same ∙ add-mul-mod_self_left d x b ∙ mod-eq_of_lt d_below

higher : (x a b : ℕ) → 0 < x → x * a ≡ x * b → a ≡ b
higher zero a b some same = absurd (omega arith)
higher (suc x) a b some same = elim (cases_lt a b) [
  | inl less ↦ absurd (let step : suc a ≤ b = omega arith in omega (arith, mul-le-mul_left (suc x) step))
  | inr other ↦ elim (cases_lt b a) [
    | inl less ↦ absurd (let step : suc b ≤ a = omega arith in omega (arith, mul-le-mul_left (suc x) step))
    | inr also ↦ omega arith
  ]
]

same_from_values : (k n : ℕ) (a b : Coefficients) → ((x : ℕ) → n ≤ x → sum_at x a ≡ sum_at x b) → coefficient_at a k ≡ coefficient_at b k
same_from_values zero n a b same =
    let c = coefficient_at a 0 in
    let d = coefficient_at b 0 in
    let x = n + c + d + 1 in
    lowest x c d (sum_at x (rest_of a)) (sum_at x (rest_of b)) (omega arith) (omega arith) (sym (first_and_rest x a) ∙ same x (omega arith) ∙ first_and_rest x b)
same_from_values (suc k) n a b same =
    let c = coefficient_at a 0 in
    let d = coefficient_at b 0 in
    coefficient_at-rest a k
    ∙ same_from_values k (n + c + d + 1) (rest_of a) (rest_of b)
    (λ x above.
    let all : c + x * sum_at x (rest_of a) ≡ d + x * sum_at x (rest_of b) = sym (first_and_rest x a) ∙ same x (omega arith) ∙ first_and_rest x b in
    let first : c ≡ d = lowest x c d (sum_at x (rest_of a)) (sum_at x (rest_of b)) (omega arith) (omega arith) all in
    higher x (sum_at x (rest_of a)) (sum_at x (rest_of b)) (omega arith) (omega arith))
    ∙ sym (coefficient_at-rest b k)

-- lists with the same value at each number are the same polynomial
pub by_values : (p : ℕ) (a b : Coefficients) → ((x : ℕ) → sum_at x a ≡ sum_at x b) → SameUnivariate p a b
by_values p a b same k = ap (λ n. n % p) (same_from_values k 0 a b (λ x _. same x))

-- ---- sums

pub cancel_number : (p x y z : ℕ) → 0 < p → (x + z) % p ≡ (y + z) % p → x % p ≡ y % p
cancel_number p x y z some same =
    let rest : (w : ℕ) → (w + z % p) % p ≡ (w + z) % p = λ w. (let e : w + z % p ≡ z % p + w = omega arith in ap (λ n. n % p) e) ∙ add-mod (z % p) w p ∙ ap (λ n. (n + w % p) % p) (mod-mod z p) ∙ sym (add-mod z w p) ∙ (let e : z + w ≡ w + z = omega arith in ap (λ n. n % p) e) in
    cancel_mod p x y (z % p) (let less : z % p < p = mod-lt z some in omega arith) (rest x ∙ same ∙ sym (rest y))

pub cancel_sum : (p : ℕ) (a b c : Coefficients) → 0 < p → SameUnivariate p (plus a c) (plus b c) → SameUnivariate p a b
cancel_sum p a b c some same k =
    cancel_number p (coefficient_at a k) (coefficient_at b k) (coefficient_at c k) some
    (ap (λ n. n % p) (sym (coefficient_at-plus a c k)) ∙ same k ∙ ap (λ n. n % p) (coefficient_at-plus b c k))

pub all_but_one : (p z : ℕ) → 0 < p → (p - 1) * z + z ≡ p * z
all_but_one p z some = let whole : suc (p - 1) ≡ p = omega arith in omega (arith, ap (λ n. n * z) whole)

-- p times a polynomial is 0
pub whole_multiple_is_zero : (p : ℕ) (a : Coefficients) → SameUnivariate p (multiple p a) []
whole_multiple_is_zero p a k = ap (λ n. n % p) (coefficient_at-multiple p a k) ∙ mul-mod_right p (coefficient_at a k) ∙ sym (zero-mod p)

-- a difference and what was subtracted
pub minus_and_back : (p : ℕ) (a b : Coefficients) → 0 < p → SameUnivariate p (plus (minus p a b) b) a
minus_and_back p a b some k =
    by_values p (plus (minus p a b) b) (plus (multiple p b) a)
    (λ x. simp (sum_at-plus, sum_at-multiple) (omega (arith, all_but_one p (sum_at x b) some))) k
    ∙ plus_alike p (multiple p b) [] a a (whole_multiple_is_zero p b) (λ j. refl) k

-- the two summands of a difference, from a sum
pub moved : (p : ℕ) (a b c : Coefficients) → 0 < p → SameUnivariate p (plus c b) a → SameUnivariate p c (minus p a b)
moved p a b c some sum = cancel_sum p c (minus p a b) b some (λ k. sum k ∙ sym (minus_and_back p a b some k))

-- ---- roots are factors

-- the quotient by X - x
abbrev pub quotient_at : ℕ → Coefficients → Coefficients
quotient_at x [] = []
quotient_at x (c ∷ f) = sum_at x f ∷ quotient_at x f

quotient_value : (x y : ℕ) (f : Coefficients) → sum_at y f + x * sum_at y (quotient_at x f) ≡ y * sum_at y (quotient_at x f) + sum_at x f
quotient_value x y [] = omega arith
quotient_value x y (c ∷ f) = omega (arith, ap (λ n. y * n) (quotient_value x y f))

-- the polynomial X - x
abbrev pub factor : ℕ → ℕ → Coefficients
factor p x = (p - x) ∷ 1 ∷ []

pub factored : (p x : ℕ) (f : Coefficients) → x < p → value_of p x f ≡ 0 → SameUnivariate p f (times (factor p x) (quotient_at x f))
factored p x f below none =
    let q = quotient_at x f in
    let whole : p - x + x ≡ p = omega arith in
    let nothing : SameUnivariate p (sum_at x f ∷ []) (multiple p q) = λ k. constant_zero (sum_at x f) none k ∙ sym (whole_multiple_is_zero p q k) in
    cancel_sum p f (times (factor p x) q) (multiple x q) (omega arith)
    (λ k.
    by_values p (plus f (multiple x q)) (plus (0 ∷ q) (sum_at x f ∷ []))
    (λ y. simp (sum_at-plus, sum_at-multiple) (omega (arith, quotient_value x y f))) k
    ∙ plus_alike p (0 ∷ q) (0 ∷ q) (sum_at x f ∷ []) (multiple p q) (λ j. refl) nothing k
    ∙ by_values p (plus (0 ∷ q) (multiple p q)) (plus (times (factor p x) q) (multiple x q))
    (λ y. simp (sum_at-plus, sum_at-multiple) (omega (arith, ap (λ n. n * sum_at y q) whole))) k)
  where
    constant_zero : (c : ℕ) → c % p ≡ 0 → SameUnivariate p (c ∷ []) []
    constant_zero c e zero = e ∙ sym (zero-mod p)
    constant_zero c e (suc k) = refl
