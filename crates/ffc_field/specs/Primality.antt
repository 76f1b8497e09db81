-- The eight orders are prime: the odd ones by Proth's theorem, each from its k and e and a witness a.
use Rattle.std.specs.Prelude.{◌≡◌, ℕ, ◌+◌, ◌-◌, ◌*◌, ◌/◌, ◌^◌, ◌<◌}
use Rattle.std.proofs.Common.{◌%◌, refl, sym, ap, ◌∙◌, arith, lit<, one-mul}
use Rattle.ffc_field.specs.Modular.{IsPrime}
use Rattle.ffc_field.specs.Proth.{proth}
use Rattle.ffc_field.specs.Squaring.{power_by_squaring, power_by_squaring-is}

-- Proth's theorem, with the power computed by repeated squaring
by_proth : (p k e a : ℕ) → 0 < k → 0 < e → p ≡ k * 2 ^ e + 1 → k < 2 ^ e → (p - 1) / 2 < 2 ^ 64 →
    power_by_squaring 64 p 1 a ((p - 1) / 2) ≡ p - 1 → IsPrime p
by_proth p k e a positive exponent form small within minus =
    let n : ℕ = (p - 1) / 2
    in proth p k e a positive exponent form small
    (ap (λ x. x % p) (sym (one-mul (a ^ n))) ∙ sym (power_by_squaring-is 64 p 1 a n within) ∙ minus)

pub two_is_prime : IsPrime 2
two_is_prime = record { least = omega arith; undivided = λ d k more less product. omega arith }

pub three_is_prime : IsPrime 3
three_is_prime = by_proth 3 1 1 2 (lit< tt) (lit< tt) refl (lit< tt) (lit< tt) refl

pub five_is_prime : IsPrime 5
five_is_prime = by_proth 5 1 2 2 (lit< tt) (lit< tt) refl (lit< tt) (lit< tt) refl

pub seventeen_is_prime : IsPrime 17
seventeen_is_prime = by_proth 17 1 4 3 (lit< tt) (lit< tt) refl (lit< tt) (lit< tt) refl

pub fermat_four_is_prime : IsPrime 65537
fermat_four_is_prime = by_proth 65537 1 16 3 (lit< tt) (lit< tt) refl (lit< tt) (lit< tt) refl

pub baby_bear_is_prime : IsPrime 2013265921
baby_bear_is_prime = by_proth 2013265921 15 27 11 (lit< tt) (lit< tt) refl (lit< tt) (lit< tt) refl

pub koala_bear_is_prime : IsPrime 2130706433
koala_bear_is_prime = by_proth 2130706433 127 24 3 (lit< tt) (lit< tt) refl (lit< tt) (lit< tt) refl

pub goldilocks_is_prime : IsPrime 18446744069414584321
goldilocks_is_prime = by_proth 18446744069414584321 4294967295 32 7 (lit< tt) (lit< tt) refl (lit< tt) (lit< tt) refl
