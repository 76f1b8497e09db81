-- The laws of normal lists and of values.
use Rattle.std.proofs.Common.{◌≡◌, ℕ, suc, ◌+◌, ◌*◌, ◌%◌, ◌^◌, ◌<◌, [], ◌∷◌, refl, sym, ap, ap₂, ◌∙◌, arith, mul_assoc, mul_comm}
use Rattle.std.proofs.Math.Nat.{add-mod, mod-eq_of_lt, zero-mod, pow-succ', pow-zero, one-mul}
use Rattle.std.proofs.lemmas.Nat.{mul-mod}
use Rattle.ffc_field.specs.Modular.{add_mod, mul_mod}
use Rattle.ffc_ring.proofs.PolynomialLemmas.{sum_alike, times_alike}
use Rattle.ffc_uni.specs.Univariate.{Coefficients, SameUnivariate, IsNormal, plus, multiple, times, sum_at, value_of}

-- ---- normal lists

pub normal_head : (p c : ℕ) (a : Coefficients) → IsNormal p (c ∷ a) → c < p
normal_head p c [] h = h.0
normal_head p c (d ∷ a) h = h.0

pub normal_tail : (p c : ℕ) (a : Coefficients) → IsNormal p (c ∷ a) → IsNormal p a
normal_tail p c [] h = tt
normal_tail p c (d ∷ a) h = h.1

-- a normal list with an element has a coefficient other than 0
normal_not_zero : (p c : ℕ) (a : Coefficients) → IsNormal p (c ∷ a) → SameUnivariate p [] (c ∷ a) → ⊥
normal_not_zero p c [] h none = h.1 (sym (mod-eq_of_lt h.0) ∙ sym (none 0) ∙ zero-mod p)
normal_not_zero p c (d ∷ a) h none = normal_not_zero p d a h.1 (λ k. none (suc k))

pub one_normal : (p : ℕ) (a b : Coefficients) → IsNormal p a → IsNormal p b → SameUnivariate p a b → a ≡ b
one_normal p [] [] v w same = refl
one_normal p [] (d ∷ b) v w same = absurd (normal_not_zero p d b w same)
one_normal p (c ∷ a) [] v w same = absurd (normal_not_zero p c a v (λ k. sym (same k)))
one_normal p (c ∷ a) (d ∷ b) v w same =
    let head : c ≡ d = sym (mod-eq_of_lt (normal_head p c a v)) ∙ same 0 ∙ mod-eq_of_lt (normal_head p d b w)
    in ap₂ ◌∷◌ head (one_normal p a b (normal_tail p c a v) (normal_tail p d b w) (λ k. same (suc k)))

-- ---- sums with weights

-- the sum of the coefficients from X^k on, each times the weight of its power
abbrev pub weighed : (ℕ → ℕ) → ℕ → Coefficients → ℕ
weighed f k [] = 0
weighed f k (c ∷ a) = c * f k + weighed f (suc k) a

pub weighed-plus : (f : ℕ → ℕ) (k : ℕ) (a b : Coefficients) → weighed f k (plus a b) ≡ weighed f k a + weighed f k b
weighed-plus f k [] b = omega arith
weighed-plus f k (x ∷ a) [] = omega arith
weighed-plus f k (x ∷ a) (y ∷ b) = omega (arith, weighed-plus f (suc k) a b)

pub weighed-multiple : (f : ℕ → ℕ) (k c : ℕ) (a : Coefficients) → weighed f k (multiple c a) ≡ c * weighed f k a
weighed-multiple f k c [] = omega arith
weighed-multiple f k c (x ∷ a) = omega (arith, weighed-multiple f (suc k) c a)

-- a sum with weights depends modulo p on the polynomial alone
pub one_weighed : (p : ℕ) (f : ℕ → ℕ) (k : ℕ) (a b : Coefficients) → SameUnivariate p a b → weighed f k a % p ≡ weighed f k b % p
one_weighed p f k [] [] same = refl
one_weighed p f k [] (d ∷ b) same =
    ap (λ n. n % p) (let none : 0 ≡ 0 * f k + 0 = omega arith in none)
    ∙ sum_alike p (0 * f k) (d * f k) 0 (weighed f (suc k) b) (times_alike p 0 d (f k) (same 0))
    (one_weighed p f (suc k) [] b (λ j. same (suc j)))
one_weighed p f k (c ∷ a) [] same =
    sum_alike p (c * f k) (0 * f k) (weighed f (suc k) a) 0 (times_alike p c 0 (f k) (same 0))
    (one_weighed p f (suc k) a [] (λ j. same (suc j)))
    ∙ ap (λ n. n % p) (let none : 0 * f k + 0 ≡ 0 = omega arith in none)
one_weighed p f k (c ∷ a) (d ∷ b) same =
    sum_alike p (c * f k) (d * f k) (weighed f (suc k) a) (weighed f (suc k) b) (times_alike p c d (f k) (same 0))
    (one_weighed p f (suc k) a b (λ j. same (suc j)))

-- ---- values

pub weighed-power : (x k : ℕ) (a : Coefficients) → weighed (λ j. x ^ j) k a ≡ x ^ k * sum_at x a
weighed-power x k [] = omega arith
weighed-power x k (c ∷ a) =
    let next : x ^ suc k * sum_at x a ≡ x ^ k * (x * sum_at x a) =
    ap (λ n. n * sum_at x a) (pow-succ' x k ∙ mul_comm x (x ^ k)) ∙ mul_assoc (x ^ k) x (sum_at x a)
    in omega (arith, weighed-power x (suc k) a)

pub sum_at-is_weighed : (x : ℕ) (a : Coefficients) → sum_at x a ≡ weighed (λ j. x ^ j) 0 a
sum_at-is_weighed x a = sym (weighed-power x 0 a ∙ ap (λ n. n * sum_at x a) (pow-zero x) ∙ one-mul (sum_at x a))

pub sum_at-plus : (x : ℕ) (a b : Coefficients) → sum_at x (plus a b) ≡ sum_at x a + sum_at x b
sum_at-plus x a b =
    sum_at-is_weighed x (plus a b) ∙ weighed-plus (λ j. x ^ j) 0 a b
    ∙ ap₂ ◌+◌ (sym (sum_at-is_weighed x a)) (sym (sum_at-is_weighed x b))

pub sum_at-multiple : (x c : ℕ) (a : Coefficients) → sum_at x (multiple c a) ≡ c * sum_at x a
sum_at-multiple x c a =
    sum_at-is_weighed x (multiple c a) ∙ weighed-multiple (λ j. x ^ j) 0 c a ∙ ap (λ n. c * n) (sym (sum_at-is_weighed x a))

pub sum_at-times : (x : ℕ) (a b : Coefficients) → sum_at x (times a b) ≡ sum_at x a * sum_at x b
sum_at-times x [] b = omega arith
sum_at-times x (c ∷ a) b =
    let rest : x * sum_at x (times a b) ≡ x * sum_at x a * sum_at x b =
    ap (λ n. x * n) (sum_at-times x a b) ∙ sym (mul_assoc x (sum_at x a) (sum_at x b))
    in omega (arith, sum_at-plus x (multiple c b) (0 ∷ times a b), sum_at-multiple x c b)

pub value_of-plus : (p x : ℕ) (a b : Coefficients) → value_of p x (plus a b) ≡ add_mod p (value_of p x a) (value_of p x b)
value_of-plus p x a b = ap (λ n. n % p) (sum_at-plus x a b) ∙ add-mod (sum_at x a) (sum_at x b) p

pub value_of-times : (p x : ℕ) (a b : Coefficients) → value_of p x (times a b) ≡ mul_mod p (value_of p x a) (value_of p x b)
value_of-times p x a b = ap (λ n. n % p) (sum_at-times x a b) ∙ mul-mod (sum_at x a) (sum_at x b) p

pub one_value : (p x : ℕ) (a b : Coefficients) → SameUnivariate p a b → value_of p x a ≡ value_of p x b
one_value p x a b same =
    ap (λ n. n % p) (sum_at-is_weighed x a) ∙ one_weighed p (λ j. x ^ j) 0 a b same
    ∙ ap (λ n. n % p) (sym (sum_at-is_weighed x b))
