-- Sums of multiples of generators up to a degree that are variables less residues.
use Rattle.std.specs.Prelude.{ℕ, ◌<◌, ◌≤◌, List, All, length, take}
use Rattle.std.specs.List.{AllZip}
use Rattle.ffc_refutation.specs.Combinations.{Summand, sum_of, IsDetermined, IsNonzeroConstant}
use Rattle.ffc_refutation.specs.declared.combination.Determined.{Determined}
use Rattle.ffc_ring.specs.Polynomial.{Terms, SamePolynomial, difference}
use Rattle.ffc_trees.specs.NodePolynomials.{constant, variable}
use Rattle.ffc_macaulay.specs.Identities.{IsMultiple, HasNoIdentity}
use Rattle.ffc_macaulay.specs.declared.solving.Solution.{Solution}
use Rattle.ffc_macaulay.specs.declared.solving.Solution.TheVariants.{Identity, Values, Neither}

-- some sum of multiples is the variable less a residue
pub record Determines (p d : ℕ) (xs degrees : List ℕ) (lines : List Terms) (x : ℕ) : Type 0 where
  pub value : ℕ
  pub residue : value < p
  pub summands : List Summand
  pub each : All (IsMultiple p d xs degrees) summands
  pub sum : SamePolynomial p (sum_of lines summands) (difference p (variable x) (constant value))

-- few multiples that sum to the variable less the value
pub record IsSolution (p d : ℕ) (xs degrees : List ℕ) (lines : List Terms) (x : ℕ) (v : Determined) : Type 0 where
  pub determined : IsDetermined p lines x v.value v.summands.items
  pub each : All (IsMultiple p d xs degrees) v.summands.items
  pub few : length v.summands.items ≤ 4096

-- what is found
abbrev pub IsSolvedBy : ℕ → ℕ → List ℕ → List ℕ → List Terms → ℕ → Solution → Type 0
IsSolvedBy p d xs degrees lines count (Identity summands) = IsNonzeroConstant p lines summands.items × (length summands.items ≤ 4096)
IsSolvedBy p d xs degrees lines count (Values determined) = AllZip (IsSolution p d xs degrees lines) (take count xs) determined.items
IsSolvedBy p d xs degrees lines count Neither = HasNoIdentity p d xs degrees lines × (All (Determines p d xs degrees lines) (take count xs) → ⊥)
