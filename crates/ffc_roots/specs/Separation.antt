-- Which residues separate roots, and how many units finding the roots takes at most (Rabin, "Probabilistic algorithms in finite
-- fields", 1980: the roots s of a polynomial are divided by whether s + c is a square).
use Rattle.std.specs.Prelude.{◌≡◌, ◌≢◌, ℕ, ◌+◌, ◌-◌, ◌*◌, ◌/◌, ◌^◌, ◌<◌, ◌⊎◌}
use Rattle.ffc_field.specs.Modular.{add_mod, pow_mod}
use Rattle.ffc_base.specs.Metering.{Spending, total}
use Rattle.ffc_uni.specs.Univariate.{Coefficients}
use Rattle.ffc_roots.specs.Roots.{IsRoot}

-- c separates s and t: one of s + c and t + c is 0, or their powers to half of p - 1, rounded down, differ
abbrev pub Separates : ℕ → ℕ → ℕ → ℕ → Type 0
Separates p c s t =
    (add_mod p s c ≡ 0) ⊎ ((add_mod p t c ≡ 0) ⊎ (pow_mod p (s + c) ((p - 1) / 2) ≢ pow_mod p (t + c) ((p - 1) / 2)))

-- each two different roots of f are separated by some number below the bound
abbrev pub AreSeparated : ℕ → Coefficients → ℕ → Type 0
AreSeparated p f bound = (s t : ℕ) → IsRoot p f s → IsRoot p f t → s ≢ t → (c : ℕ) × (c < bound) × Separates p c s t

-- c separates no two different roots of f
abbrev pub SeparatesNone : ℕ → Coefficients → ℕ → Type 0
SeparatesNone p f c = (s t : ℕ) → IsRoot p f s → IsRoot p f t → s ≢ t → Separates p c s t → ⊥

-- two roots of f are the same
abbrev pub HasOneRootAtMost : ℕ → Coefficients → Type 0
HasOneRootAtMost p f = (s t : ℕ) → IsRoot p f s → IsRoot p f t → s ≡ t

-- the units that are enough for the chain, and for one residue that is tried
abbrev pub unit_bound : ℕ → ℕ
unit_bound degree = 128 + 2 * (degree + 2) ^ 3

-- fewer units than these are left
abbrev pub HasFewerUnits : Spending → ℕ → Type 0
HasFewerUnits s needed = s.budget < total s + needed
