-- What a pass over a row computes, place by place, and the polynomial that it is.
use Rattle.std.proofs.Common.{◌≡◌, ℕ, zero, suc, ◌+◌, ◌-◌, ◌*◌, ◌/◌, ◌%◌, ◌<◌, ◌≤◌, [], ◌∷◌, length, refl, sym, ap, ◌∙◌, arith, mod-lt, add_comm}
use Rattle.std.proofs.Math.Nat.{add-mul, add-mul-mod_self_left, div-add-mod, mod-mod, add-mod-mod}
use Rattle.std.proofs.lemmas.Nat.{mul-mod_first, mul-mod_second}
use Rattle.ffc_field.specs.Modular.{add_mod, sub_mod, mul_mod, neg_mod}
use Rattle.ffc_uni.specs.Univariate.{Coefficients, coefficient_at, SameUnivariate, plus, multiple, times}
use Rattle.ffc_uni.specs.Rows.{leading}
use Rattle.ffc_uni.proofs.Coefficients.{coefficient_at-plus, coefficient_at-multiple}

-- ---- numbers modulo p

-- what a multiple of p is added to
whole_added : (p x y m n : ℕ) → x + p * m ≡ y + p * n → x % p ≡ y % p
whole_added p x y m n e =
    sym (add-mul-mod_self_left x p m) ∙ ap (λ k. k % p) e ∙ add-mul-mod_self_left y p n

-- a product with the negation, and a difference
pub negated_product : (p a y c : ℕ) → 0 < p → a ≤ p → ((p - a) * y + c) % p ≡ sub_mod p c (mul_mod p a y)
negated_product p a y c positive within =
    let parts : (p - a) * y + a * y ≡ p * y = sym (add-mul (p - a) a y) ∙ ap (λ k. k * y) (let e : p - a + a ≡ p = omega arith in e) in
    let whole : p * (a * y / p) + a * y % p ≡ a * y = div-add-mod (a * y) p in
    let below : a * y % p < p = mod-lt (a * y) positive in
    whole_added p ((p - a) * y + c) (c + (p - a * y % p)) (a * y / p + 1) y (omega arith)

-- what was subtracted is added again
pub restored : (p t c : ℕ) → 0 < p → (t + sub_mod p c (t % p)) % p ≡ c % p
restored p t c positive =
    let whole : p * (t / p) + t % p ≡ t = div-add-mod t p in
    let below : t % p < p = mod-lt t positive in
    add-mod-mod t (c + (p - t % p)) p
    ∙ whole_added p (t + (c + (p - t % p))) c 0 (t / p + 1) (omega arith)

pub added_product : (p y c r : ℕ) → add_mod p y (mul_mod p c r) % p ≡ (y + c * r) % p
added_product p y c r = mod-mod (y + c * r % p) p ∙ add-mod-mod y (c * r) p

-- a multiple added with the negation, and a difference
pub negated_scaled : (p q b c : ℕ) → 0 < p → q ≤ p → add_mod p c (mul_mod p (neg_mod p q) b) ≡ sub_mod p c (mul_mod p q b)
negated_scaled p q b c positive within =
    ap (add_mod p c) (mul-mod_first (p - q) b p)
    ∙ add-mod-mod c ((p - q) * b) p
    ∙ ap (λ n. n % p) (add_comm c ((p - q) * b))
    ∙ negated_product p q b c positive within

-- one step of Horner's rule
pub horner_step : (p r x s : ℕ) → add_mod p r (mul_mod p x (s % p)) ≡ (r + x * s) % p
horner_step p r x s = ap (add_mod p r) (mul-mod_second x s p) ∙ add-mod-mod r (x * s) p

-- ---- c times a row, added to another

abbrev pub with_multiple : ℕ → ℕ → Coefficients → Coefficients → Coefficients
with_multiple p c [] out = out
with_multiple p c (r ∷ row) [] = []
with_multiple p c (r ∷ row) (y ∷ out) = add_mod p y (mul_mod p c r) ∷ with_multiple p c row out

pub SameUnivariate-with_multiple : (p c : ℕ) (row out : Coefficients) → length row ≤ length out → SameUnivariate p (with_multiple p c row out) (plus out (multiple c row))
SameUnivariate-with_multiple p c [] out h = λ k. ap (λ n. n % p) (let same : coefficient_at out k ≡ coefficient_at out k + 0 = omega arith in same ∙ sym (coefficient_at-plus out [] k))
SameUnivariate-with_multiple p c (r ∷ row) [] h = absurd (omega arith)
SameUnivariate-with_multiple p c (r ∷ row) (y ∷ out) h = elim [
  | zero ↦ added_product p y c r
  | suc k ↦ SameUnivariate-with_multiple p c row out (omega arith) k
]

-- ---- X - a times a row

-- with c in front
abbrev pub root_row : ℕ → ℕ → ℕ → Coefficients → Coefficients
root_row p a c [] = c ∷ []
root_row p a c (y ∷ row) = sub_mod p c (mul_mod p a y) ∷ root_row p a y row

root_row-plus : (p a c : ℕ) (row : Coefficients) → 0 < p → a ≤ p → SameUnivariate p (root_row p a c row) (plus (multiple (p - a) row) (c ∷ row))
root_row-plus p a c [] positive within = λ k. refl
root_row-plus p a c (y ∷ row) positive within = elim [
  | zero ↦ mod-mod (c + (p - mul_mod p a y)) p ∙ sym (negated_product p a y c positive within)
  | suc k ↦ root_row-plus p a y row positive within k
]

shift_once : (row : Coefficients) (k : ℕ) → coefficient_at (0 ∷ row) k ≡ coefficient_at (0 ∷ times (1 ∷ []) row) k
shift_once row zero = refl
shift_once row (suc k) =
    let one : coefficient_at (multiple 1 row) k ≡ coefficient_at row k = coefficient_at-multiple 1 row k ∙ omega arith in
    let none : coefficient_at (0 ∷ []) k ≡ 0 = nothing k in
    omega (arith, coefficient_at-plus (multiple 1 row) (0 ∷ []) k)
  where
    nothing : (k : ℕ) → coefficient_at (0 ∷ []) k ≡ 0
    nothing zero = refl
    nothing (suc k) = refl

pub SameUnivariate-root_row : (p a : ℕ) (row : Coefficients) → 0 < p → a ≤ p → SameUnivariate p (root_row p a 0 row) (times ((p - a) ∷ 1 ∷ []) row)
SameUnivariate-root_row p a row positive within k =
    root_row-plus p a 0 row positive within k
    ∙ ap (λ n. n % p)
    (coefficient_at-plus (multiple (p - a) row) (0 ∷ row) k
    ∙ ap (λ n. coefficient_at (multiple (p - a) row) k + n) (shift_once row k)
    ∙ sym (coefficient_at-plus (multiple (p - a) row) (0 ∷ times (1 ∷ []) row) k))
