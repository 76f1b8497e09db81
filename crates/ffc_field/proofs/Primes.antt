-- The lemmas on primes that other crates cite, at residues below p.
use Rattle.std.proofs.Common.{◌≡◌, ℕ, ◌-◌, ◌<◌, ◌⊎◌, inl, inr, sym, ◌∙◌, mod-eq_of_lt}
use Rattle.ffc_field.specs.Modular.{IsPrime, mul_mod, pow_mod}
pub use Rattle.ffc_field.specs.Fermat.{zero_left, zero_multiple, no_zero_divisors, fermat, fermat_one, power_inverse}
pub use Rattle.ffc_field.specs.Proth.{pow-mul, proth}

-- a product of two residues is 0 only where one of them is
pub no_zero_product : (p a b : ℕ) → IsPrime p → a < p → b < p → mul_mod p a b ≡ 0 → (a ≡ 0) ⊎ (b ≡ 0)
no_zero_product p a b prime a_below b_below product =
    elim (no_zero_divisors p prime a b product) [
      | inl zero ↦ inl (sym (mod-eq_of_lt a_below) ∙ zero)
      | inr zero ↦ inr (sym (mod-eq_of_lt b_below) ∙ zero)
    ]

-- Fermat's theorem at a residue
pub fermat_residue : (p x : ℕ) → IsPrime p → x < p → pow_mod p x p ≡ x
fermat_residue p x prime below = fermat p prime x ∙ mod-eq_of_lt below

-- the inverse of a residue other than 0
pub inverse_residue : (p x : ℕ) → IsPrime p → x < p → (x ≡ 0 → ⊥) → mul_mod p x (pow_mod p x (p - 2)) ≡ 1
inverse_residue p x prime below rest = power_inverse p prime x (λ zero. rest (sym (mod-eq_of_lt below) ∙ zero))
