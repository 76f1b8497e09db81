-- Arithmetic of residues, as operations on natural numbers: the integers modulo an order p.
--
-- A residue of order p is a number below p. Sum, difference, product, negation and power are the integer
-- operations modulo p; for the difference and the negation, p is added first, so that nothing falls below 0.
use Rattle.std.specs.Prelude.{◌≡◌, ℕ, ◌+◌, ◌-◌, ◌*◌, ◌%◌, ◌^◌, ◌<◌, ◌≤◌}

abbrev pub add_mod : ℕ → ℕ → ℕ → ℕ
add_mod p a b = (a + b) % p

abbrev pub sub_mod : ℕ → ℕ → ℕ → ℕ
sub_mod p a b = (a + (p - b)) % p

abbrev pub mul_mod : ℕ → ℕ → ℕ → ℕ
mul_mod p a b = (a * b) % p

abbrev pub neg_mod : ℕ → ℕ → ℕ
neg_mod p a = (p - a) % p

abbrev pub pow_mod : ℕ → ℕ → ℕ → ℕ
pow_mod p a e = (a ^ e) % p

-- a prime: at least 2, and no number strictly between 1 and it divides it
pub record IsPrime (p : ℕ) : Type 0 where
  pub least : 2 ≤ p
  pub undivided : (d k : ℕ) → 1 < d → d < p → p ≡ d * k → ⊥
