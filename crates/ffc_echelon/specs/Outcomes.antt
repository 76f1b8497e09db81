-- What elimination answers.
use Rattle.std.specs.Prelude.{ℕ, List, map}
use Rattle.ffc_echelon.specs.Vectors.{Coordinates}
use Rattle.ffc_echelon.specs.Forms.{IsFormOf, IsContradiction}
use Rattle.ffc_echelon.specs.declared.elimination.Elimination.{Elimination}
use Rattle.ffc_echelon.specs.declared.elimination.Elimination.TheVariants.{Form, Contradiction}

-- the answer is right of these inputs
abbrev pub IsOutcome : {F : Type 0} → ℕ → (F → ℕ) → ℕ → List Coordinates → Elimination F → Type 0
IsOutcome p value n inputs (Form form) = IsFormOf p n inputs form
IsOutcome p value n inputs (Contradiction coefficients) = IsContradiction p n inputs (map value coefficients.items)
