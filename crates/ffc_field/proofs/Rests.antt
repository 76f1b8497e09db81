-- Remainders that one subtraction, or none, gives, and what a binary digit of an exponent adds to a power.
use Rattle.std.proofs.Common.{◌≡◌, ℕ, ◌+◌, ◌*◌, ◌%◌, ◌^◌, ◌<◌, sym, ap, ◌∙◌}
use Rattle.std.proofs.Math.Nat.{mod-eq_of_lt, add-mod_right, mul-one, pow-zero}
use Rattle.ffc_field.specs.Proth.{pow-one_exponent}

pub rest_same : (n p s : ℕ) → s < p → n ≡ s → n % p ≡ s
rest_same n p s below same = ap (λ m. m % p) same ∙ mod-eq_of_lt below

pub rest_once : (n p s : ℕ) → s < p → n ≡ s + p → n % p ≡ s
rest_once n p s below once = ap (λ m. m % p) once ∙ add-mod_right s p ∙ mod-eq_of_lt below

pub digit_one : (p y x d : ℕ) → d ≡ 1 → y * x % p ≡ y * x ^ d % p
digit_one p y x d one = ap (λ z. y * z % p) (sym (pow-one_exponent x) ∙ ap (λ e. x ^ e) (sym one))

pub digit_zero : (p y x d : ℕ) → d ≡ 0 → y < p → y ≡ y * x ^ d % p
digit_zero p y x d none below =
    sym (mod-eq_of_lt below)
    ∙ ap (λ z. z % p) (sym (mul-one y))
    ∙ ap (λ z. y * z % p) (sym (pow-zero x) ∙ ap (λ e. x ^ e) (sym none))
