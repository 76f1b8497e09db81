-- Systems of affine forms of which some are to be 0, and others are not.
use Rattle.std.specs.Prelude.{◌≡◌, ◌≢◌, ℕ, List, [], ◌∷◌, ◌++◌, All, length, map, slice_get, Some}
use Rattle.ffc_echelon.specs.Forms.{Form, IsContradiction, IsCombination, IsSolution}
use Rattle.ffc_echelon.specs.Vectors.{Coordinates, dot}
use Rattle.ffc_echelon.specs.declared.solving.Solution.{Solution}
use Rattle.ffc_echelon.specs.declared.solving.Solution.TheVariants.{Contradiction, Combination, Values}

-- the form at this place is the sum of the others with these coefficients
pub record IsCombinedAt (p : ℕ) (equal unequal : List Coordinates) (place : ℕ) (coefficients : List ℕ) : Type 0 where
  pub vector : Coordinates
  pub at : slice_get unequal place ≡ Some vector
  pub combination : IsCombination p equal vector [] coefficients

-- a value for each of n unknowns, at which the first forms are 0 and none of the others is
pub record AreValues (p n : ℕ) (equal unequal : List Coordinates) (values : List ℕ) : Type 0 where
  pub long : length values ≡ n
  pub zeros : All (λ v. dot p (values ++ 1 ∷ []) v ≡ 0) equal
  pub apart : All (λ v. dot p (values ++ 1 ∷ []) v ≢ 0) unequal

-- the answer is right of this system
abbrev pub IsSolvedBy : {F : Type 0} → ℕ → (F → ℕ) → ℕ → List Coordinates → List Coordinates → Solution F → Type 0
IsSolvedBy p value n equal unequal (Contradiction coefficients) = IsContradiction p n equal (map value coefficients.items)
IsSolvedBy p value n equal unequal (Combination place coefficients) = IsCombinedAt p equal unequal place (map value coefficients.items)
IsSolvedBy p value n equal unequal (Values values) = AreValues p n equal unequal (map value values.items)

-- values that avoid the forms that are left
abbrev pub IsPlacedBy : {F : Type 0} → ℕ → (F → ℕ) → Form → List Coordinates → Solution F → Type 0
IsPlacedBy p value form rests (Values values) = IsSolution p form rests (map value values.items)
IsPlacedBy p value form rests (Contradiction coefficients) = ⊥
IsPlacedBy p value form rests (Combination place coefficients) = ⊥
