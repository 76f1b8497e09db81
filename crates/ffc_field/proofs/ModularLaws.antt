-- The laws of arithmetic modulo p, for any p: those of a commutative ring on the numbers below p, and those of powers.
use Rattle.std.proofs.Common.{◌≡◌, ℕ, suc, ◌+◌, ◌-◌, ◌*◌, ◌%◌, ◌^◌, ◌<◌, ◌≤◌, sym, ap, ◌∙◌, arith, le_of_lt, mod-lt, add_assoc}
use Rattle.std.proofs.Math.Nat.{add_comm, mul_comm, mul_assoc, mod-add-mod, add-mod-mod, mod-eq_of_lt, mod_self, mul-zero, zero-mod, pow-zero, pow-succ', add-mod, mul-add}
use Rattle.std.proofs.lemmas.Nat.{mul-mod_first, mul-mod_second, mul-mod, pow-mod, pow-add}
use Rattle.ffc_field.specs.Modular.{add_mod, sub_mod, mul_mod, neg_mod, pow_mod}
use Rattle.ffc_field.specs.Proth.{pow-mul}

-- ---- the sum

pub add_mod-comm : (p a b : ℕ) → add_mod p a b ≡ add_mod p b a
add_mod-comm p a b = ap (λ n. n % p) (add_comm a b)

pub add_mod-assoc : (p a b c : ℕ) → add_mod p (add_mod p a b) c ≡ add_mod p a (add_mod p b c)
add_mod-assoc p a b c =
    mod-add-mod (a + b) p c ∙ ap (λ n. n % p) (add_assoc a b c) ∙ sym (add-mod-mod a (b + c) p)

pub add_mod-zero : (p a : ℕ) → a < p → add_mod p a 0 ≡ a
add_mod-zero p a below = ap (λ n. n % p) (let e : a + 0 ≡ a = omega arith in e) ∙ mod-eq_of_lt below

-- ---- the negation and the difference

pub add_mod-neg : (p a : ℕ) → a ≤ p → add_mod p a (neg_mod p a) ≡ 0
add_mod-neg p a within =
    add-mod-mod a (p - a) p ∙ ap (λ n. n % p) (let e : a + (p - a) ≡ p = omega arith in e) ∙ mod_self p

pub sub_mod-add_neg : (p a b : ℕ) → sub_mod p a b ≡ add_mod p a (neg_mod p b)
sub_mod-add_neg p a b = sym (add-mod-mod a (p - b) p)

-- ---- the product

pub mul_mod-comm : (p a b : ℕ) → mul_mod p a b ≡ mul_mod p b a
mul_mod-comm p a b = ap (λ n. n % p) (mul_comm a b)

pub mul_mod-assoc : (p a b c : ℕ) → mul_mod p (mul_mod p a b) c ≡ mul_mod p a (mul_mod p b c)
mul_mod-assoc p a b c =
    mul-mod_first (a * b) c p ∙ ap (λ n. n % p) (mul_assoc a b c) ∙ sym (mul-mod_second a (b * c) p)

pub mul_mod-one : (p a : ℕ) → a < p → mul_mod p a 1 ≡ a
mul_mod-one p a below = ap (λ n. n % p) (let e : a * 1 ≡ a = omega arith in e) ∙ mod-eq_of_lt below

pub mul_mod-zero : (p a : ℕ) → mul_mod p a 0 ≡ 0
mul_mod-zero p a = ap (λ n. n % p) (mul-zero a) ∙ zero-mod p

pub mul_mod-add : (p a b c : ℕ) → mul_mod p a (add_mod p b c) ≡ add_mod p (mul_mod p a b) (mul_mod p a c)
mul_mod-add p a b c =
    mul-mod_second a (b + c) p ∙ ap (λ n. n % p) (mul-add a b c) ∙ add-mod (a * b) (a * c) p

-- ---- powers

pub pow_mod-zero : (p a : ℕ) → 1 < p → pow_mod p a 0 ≡ 1
pow_mod-zero p a two = ap (λ n. n % p) (pow-zero a) ∙ mod-eq_of_lt two

pub pow_mod-suc : (p a e : ℕ) → pow_mod p a (suc e) ≡ mul_mod p a (pow_mod p a e)
pow_mod-suc p a e = ap (λ n. n % p) (pow-succ' a e) ∙ sym (mul-mod_second a (a ^ e) p)

pub pow_mod-add : (p a e f : ℕ) → pow_mod p a (e + f) ≡ mul_mod p (pow_mod p a e) (pow_mod p a f)
pow_mod-add p a e f = ap (λ n. n % p) (pow-add a e f) ∙ mul-mod (a ^ e) (a ^ f) p

pub pow_mod-mul : (p a e f : ℕ) → pow_mod p a (e * f) ≡ pow_mod p (pow_mod p a e) f
pow_mod-mul p a e f = ap (λ n. n % p) (pow-mul a e f) ∙ sym (pow-mod (a ^ e) f p)

-- ---- what follows, for terms over residues

add_mod-back : (p x c : ℕ) → x < p → c ≤ p → x ≡ add_mod p (add_mod p x c) (neg_mod p c)
add_mod-back p x c below within =
    sym (add_mod-zero p x below)
    ∙ ap (λ n. add_mod p x n) (sym (add_mod-neg p c within))
    ∙ sym (add_mod-assoc p x c (neg_mod p c))

pub add_mod-cancel : (p a b c : ℕ) → a < p → b < p → c ≤ p → add_mod p a c ≡ add_mod p b c → a ≡ b
add_mod-cancel p a b c a_below b_below within same =
    add_mod-back p a c a_below within
    ∙ ap (λ n. add_mod p n (neg_mod p c)) same
    ∙ sym (add_mod-back p b c b_below within)

-- the negation is the one residue whose sum with the number is 0
pub neg_mod-only : (p a b : ℕ) → a ≤ p → b < p → add_mod p a b ≡ 0 → b ≡ neg_mod p a
neg_mod-only p a b within below zero =
    let neg_below : neg_mod p a < p = mod-lt (p - a) (omega arith)
    in add_mod-cancel p b (neg_mod p a) a below neg_below within
    (add_mod-comm p b a ∙ zero ∙ sym (add_mod-neg p a within) ∙ add_mod-comm p a (neg_mod p a))

pub neg_mod-zero : (p : ℕ) → neg_mod p 0 ≡ 0
neg_mod-zero p = ap (λ n. n % p) (let whole : p - 0 ≡ p = omega arith in whole) ∙ mod_self p

pub sub_mod-self : (p a : ℕ) → a ≤ p → sub_mod p a a ≡ 0
sub_mod-self p a within = sub_mod-add_neg p a a ∙ add_mod-neg p a within

pub sub_mod-zero : (p a : ℕ) → a < p → sub_mod p a 0 ≡ a
sub_mod-zero p a below =
    sub_mod-add_neg p a 0 ∙ ap (λ n. add_mod p a n) (neg_mod-zero p) ∙ add_mod-zero p a below

-- a difference is 0 only between equal residues
pub same_from_sub_mod : (p a b : ℕ) → a < p → b < p → sub_mod p a b ≡ 0 → a ≡ b
same_from_sub_mod p a b a_below b_below zero =
    add_mod-cancel p a b (neg_mod p b) a_below b_below (le_of_lt (mod-lt (p - b) (omega arith)))
    (sym (sub_mod-add_neg p a b) ∙ zero ∙ sym (add_mod-neg p b (le_of_lt b_below)))

pub mul_mod-one_first : (p a : ℕ) → a < p → mul_mod p 1 a ≡ a
mul_mod-one_first p a below = mul_mod-comm p 1 a ∙ mul_mod-one p a below

pub mul_mod-zero_first : (p a : ℕ) → mul_mod p 0 a ≡ 0
mul_mod-zero_first p a = mul_mod-comm p 0 a ∙ mul_mod-zero p a

pub mul_mod-mod_first : (p a b : ℕ) → mul_mod p (a % p) b ≡ mul_mod p a b
mul_mod-mod_first p a b = mul-mod_first a b p
