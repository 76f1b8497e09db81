-- The steps that decide a linear check.
use Rattle.std.specs.Prelude.{◌≡◌, ℕ, ◌+◌, ◌<◌, ◌≤◌, true, false, List, length}
use Rattle.ffc_bounds.specs.Linear.{is_linear_within}
use Rattle.ffc_conjunction.specs.declared.conjunction.Conjunction.{Conjunction}
use Rattle.ffc_conjunction.specs.Literals.{AreLiteralsOf}
use Rattle.ffc_echelon.specs.Solving.{IsCombinedAt}
use Rattle.ffc_echelon.specs.Vectors.{Coordinates}
use Rattle.ffc_rules.specs.Entries.{NodeCheck, limits}
use Rattle.ffc_linear.specs.Answering.{IsLinearAnswer}
use Rattle.ffc_linear.specs.Systems.{IsSystemOf}
use Rattle.ffc_linear.specs.declared.deciding.LinearAnswer.{LinearAnswer}

-- The literals of a check as a system that is within the bounds on numbers. They do not clash.
pub record IsLinearSystem (c : NodeCheck) (p : ℕ) (conjunction : Conjunction) (constants : List ℕ) (equal unequal : List Coordinates) : Type 0 where
  pub system : IsSystemOf c p constants equal unequal
  pub literals : AreLiteralsOf c conjunction
  pub free : conjunction.clashes ≡ false
  pub few_constants : length constants ≤ 4096
  pub few_forms : length equal + length unequal ≤ 4096
  pub enough_values : length unequal < p

-- a disequation of such a system, by its place, is the combination of the equations with these coefficients
pub record HasCombined (c : NodeCheck) (p : ℕ) (conjunction : Conjunction) (place : ℕ) (coefficients : List ℕ) : Type 0 where
  pub constants : List ℕ
  pub equal : List Coordinates
  pub unequal : List Coordinates
  pub linear : IsLinearSystem c p conjunction constants equal unequal
  pub combined : IsCombinedAt p equal unequal place coefficients

-- the answer is right where the check is linear within some units
abbrev pub Decides : NodeCheck → LinearAnswer → Type 0
Decides c answer = (units : ℕ) → is_linear_within limits c units ≡ true → IsLinearAnswer c units answer
