-- What is left of disequations.
use Rattle.std.specs.Prelude.{ℕ, List, map}
use Rattle.ffc_echelon.specs.Forms.{Form}
use Rattle.ffc_echelon.specs.Vectors.{Coordinates}
use Rattle.ffc_echelon.specs.Rests.{IsAvoidedRest, AreRests, IsCombinedOf, IsCombined}
use Rattle.ffc_echelon.specs.declared.rests.Rest.{Rest}
use Rattle.ffc_echelon.specs.declared.rests.Rest.TheVariants as rest
use Rattle.ffc_echelon.specs.declared.rests.Rests.{Rests}
use Rattle.ffc_echelon.specs.declared.rests.Rests.TheVariants as rests

-- the answer is right of this vector
abbrev pub IsRestFor : {F : Type 0} → ℕ → (F → ℕ) → Form → Coordinates → Rest F → Type 0
IsRestFor p value form vector (rest.Apart left) = IsAvoidedRest p form vector left
IsRestFor p value form vector (rest.Combined coefficients) = IsCombinedOf p form vector (map value coefficients.items)

-- the answer is right of these vectors
abbrev pub IsRestsOf : {F : Type 0} → ℕ → (F → ℕ) → Form → List Coordinates → Rests F → Type 0
IsRestsOf p value form vectors (rests.Apart left) = AreRests p form vectors left.items
IsRestsOf p value form vectors (rests.Combined place coefficients) = IsCombined p form vectors place (map value coefficients.items)
