-- Lines whose leading monomials divide a monomial.
use Rattle.std.specs.Prelude.{ℕ, ◌<◌, List, [], length, get_or}
use Rattle.std.specs.declared.cmp.Ordering.{Ordering}
use Rattle.ffc_ring.specs.Monomial.{Monomial, Divides}
use Rattle.ffc_ring.specs.Polynomial.{Terms}
use Rattle.ffc_mono.specs.Leading.{IsLeading}

-- the leading monomial of a polynomial divides the monomial
pub record LeadsDivisor (p : ℕ) (cmp : Monomial → Monomial → Ordering) (gs : List Terms) (m : Monomial) (i : ℕ) : Type 0 where
  pub within : i < length gs
  pub coefficient : ℕ
  pub monomial : Monomial
  pub leads : IsLeading p cmp (get_or gs i []) coefficient monomial
  pub divides : Divides monomial m

-- it does not, if there is one
abbrev pub LeadsNoDivisor : ℕ → (Monomial → Monomial → Ordering) → List Terms → Monomial → ℕ → Type 0
LeadsNoDivisor p cmp gs m i = (c : ℕ) (n : Monomial) → IsLeading p cmp (get_or gs i []) c n → Divides n m → ⊥
