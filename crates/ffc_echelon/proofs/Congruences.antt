-- Numbers that leave the same remainder.
use Rattle.std.proofs.Common.{◌≡◌, ℕ, ◌+◌, ◌-◌, ◌*◌, ◌/◌, ◌%◌, ◌≤◌, refl, sym, ap, ◌∙◌, arith}
use Rattle.std.proofs.Math.Nat.{add-mul, add-mul-mod_self_left, div-add-mod, mod-mod, add-mod-mod, mul-mod_right, zero-mod}
use Rattle.std.proofs.lemmas.Nat.{mul-mod_first, mul-mod_second}
use Rattle.ffc_field.specs.Modular.{add_mod, mul_mod, neg_mod}

-- what a multiple of p is added to
pub whole_added : (p x y m n : ℕ) → x + p * m ≡ y + p * n → x % p ≡ y % p
whole_added p x y m n e =
    sym (add-mul-mod_self_left x p m) ∙ ap (λ k. k % p) e ∙ add-mul-mod_self_left y p n

-- by which multiples of p they differ
pub whole_apart : (p x y : ℕ) → x % p ≡ y % p → x + p * (y / p) ≡ y + p * (x / p)
whole_apart p x y e = omega (arith, e, div-add-mod x p, div-add-mod y p)

pub sum_alike : (p a b c d : ℕ) → a % p ≡ b % p → c % p ≡ d % p → (a + c) % p ≡ (b + d) % p
sum_alike p a b c d e f =
    whole_added p (a + c) (b + d) (b / p + d / p) (a / p + c / p) (omega (arith, whole_apart p a b e, whole_apart p c d f))

pub multiple_alike : (p s a b : ℕ) → a % p ≡ b % p → (s * a) % p ≡ (s * b) % p
multiple_alike p s a b e = sym (mul-mod_second s a p) ∙ ap (λ n. (s * n) % p) e ∙ mul-mod_second s b p

pub scale_alike : (p s t a : ℕ) → s % p ≡ t % p → (s * a) % p ≡ (t * a) % p
scale_alike p s t a e = sym (mul-mod_first s a p) ∙ ap (λ n. (n * a) % p) e ∙ mul-mod_first t a p

pub cancelled : (p a b c : ℕ) → (a + c) % p ≡ (b + c) % p → a % p ≡ b % p
cancelled p a b c e =
    whole_added p a b ((b + c) / p) ((a + c) / p) (omega (arith, whole_apart p (a + c) (b + c) e))

-- a negated multiple and the multiple
pub negated_multiple : (p s a : ℕ) → s ≤ p → (neg_mod p s * a + s * a) % p ≡ 0
negated_multiple p s a within =
    let parts : (p - s) * a + s * a ≡ p * a = sym (add-mul (p - s) s a) ∙ ap (λ k. k * a) (let e : p - s + s ≡ p = omega arith in e) in
    sum_alike p (neg_mod p s * a) ((p - s) * a) (s * a) (s * a) (mul-mod_first (p - s) a p) refl
    ∙ ap (λ n. n % p) parts ∙ mul-mod_right p a

-- a sum with a product, reduced twice
pub product_added : (p x s a : ℕ) → add_mod p x (mul_mod p s a) % p ≡ (x + s * a) % p
product_added p x s a = mod-mod (x + s * a % p) p ∙ add-mod-mod x (s * a) p

-- what is subtracted from one part is added to the other
pub moved : (p x s a m : ℕ) → s ≤ p → (add_mod p x (mul_mod p (neg_mod p s) a) + (m + s * a)) % p ≡ (x + m) % p
moved p x s a m within =
    sum_alike p (add_mod p x (mul_mod p (neg_mod p s) a)) (x + neg_mod p s * a) (m + s * a) (m + s * a) (product_added p x (neg_mod p s) a) refl
    ∙ ap (λ n. n % p) (let same : x + neg_mod p s * a + (m + s * a) ≡ x + m + (neg_mod p s * a + s * a) = omega arith in same)
    ∙ sum_alike p (x + m) (x + m) (neg_mod p s * a + s * a) 0 refl (negated_multiple p s a within ∙ sym (zero-mod p))
    ∙ ap (λ n. n % p) (let same : x + m + 0 ≡ x + m = omega arith in same)
