-- Powers modulo p by repeated squaring (D. Knuth, The Art of Computer Programming, volume 2, section 4.6.3), which
-- compute on large numerals.
use Rattle.std.specs.Prelude.{◌≡◌, ℕ, zero, suc, ◌+◌, ◌*◌, ◌/◌, ◌%◌, ◌^◌, ◌<◌}
use Rattle.std.proofs.Common.{sym, ap, ◌∙◌, arith}
use Rattle.std.proofs.Math.Nat.{pow-zero, pow-suc, mul_assoc, mul-one}
use Rattle.std.proofs.lemmas.Nat.{mul-mod_first, mul-mod, pow-mod, pow-add}
use Rattle.ffc_field.specs.Proth.{pow-mul, pow-one_exponent}

squares-pow : (x n : ℕ) → (x * x) ^ n ≡ x ^ (2 * n)
squares-pow x n =
    ap (λ z. (z * x) ^ n) (sym (pow-one_exponent x)) ∙ ap (λ z. z ^ n) (sym (pow-suc x 1)) ∙ sym (pow-mul x 2 n)

pow-digits : (x n : ℕ) → x ^ (n % 2) * (x * x) ^ (n / 2) ≡ x ^ n
pow-digits x n =
    ap (λ z. x ^ (n % 2) * z) (squares-pow x (n / 2))
    ∙ sym (pow-add x (n % 2) (2 * (n / 2)))
    ∙ ap (λ e. x ^ e) (let whole : n % 2 + 2 * (n / 2) ≡ n = omega arith in whole)

-- one binary digit of the exponent
pub square_and_multiply : (p y x n : ℕ) → (y * x ^ (n % 2) % p * (x * x % p) ^ (n / 2)) % p ≡ (y * x ^ n) % p
square_and_multiply p y x n =
    let front : ℕ = y * x ^ (n % 2)
    in mul-mod_first front ((x * x % p) ^ (n / 2)) p
    ∙ mul-mod front ((x * x % p) ^ (n / 2)) p
    ∙ ap (λ z. front % p * z % p) (pow-mod (x * x) (n / 2) p)
    ∙ sym (mul-mod front ((x * x) ^ (n / 2)) p)
    ∙ ap (λ z. z % p) (mul_assoc y (x ^ (n % 2)) ((x * x) ^ (n / 2)) ∙ ap (λ z. y * z) (pow-digits x n))

-- y * x^n modulo p, for an n of at most so many binary digits
abbrev pub power_by_squaring : ℕ → ℕ → ℕ → ℕ → ℕ → ℕ
power_by_squaring zero p y x n = y % p
power_by_squaring (suc digits) p y x n =
    power_by_squaring digits p (y * x ^ (n % 2) % p) (x * x % p) (n / 2)

pub power_by_squaring-is : (digits p y x n : ℕ) → n < 2 ^ digits → power_by_squaring digits p y x n ≡ (y * x ^ n) % p
power_by_squaring-is zero p y x n below =
    ap (λ z. z % p) (sym (mul-one y))
    ∙ ap (λ z. y * z % p) (sym (pow-zero x))
    ∙ ap (λ e. y * x ^ e % p) (let none : 0 ≡ n = omega arith in none)
power_by_squaring-is (suc digits) p y x n below =
    power_by_squaring-is digits p (y * x ^ (n % 2) % p) (x * x % p) (n / 2) (omega (arith, pow-suc 2 digits))
    ∙ square_and_multiply p y x n
