-- What an echelon form of the equations leaves of other forms.
use Rattle.std.specs.Prelude.{◌≡◌, ℕ, List, [], ◌∷◌, slice_get, Some}
use Rattle.ffc_echelon.specs.Vectors.{Coordinates, AreCoordinates}
use Rattle.ffc_echelon.specs.Forms.{Form, IsRestOf, IsAvoided, IsFormOf, IsCombination}

-- what is left of a vector where rows of an echelon form were subtracted
pub record IsAvoidedRest (p : ℕ) (form : Form) (vector rest : Coordinates) : Type 0 where
  pub multipliers : List (ℕ × ℕ)
  pub rest_of : IsRestOf p form.kept vector rest multipliers
  pub valid : AreCoordinates p rest
  pub avoided : IsAvoided form rest

-- of each vector in turn
abbrev pub AreRests : ℕ → Form → List Coordinates → List Coordinates → Type 0
AreRests p form [] [] = Unit {0}
AreRests p form [] (r ∷ rests) = ⊥
AreRests p form (v ∷ vectors) [] = ⊥
AreRests p form (v ∷ vectors) (r ∷ rests) = IsAvoidedRest p form v r × AreRests p form vectors rests

-- a vector is the combination of the inputs of an echelon form with these coefficients
abbrev pub IsCombinedOf : ℕ → Form → Coordinates → List ℕ → Type 0
IsCombinedOf p form vector coefficients =
    (inputs : List Coordinates) → IsFormOf p form.unknowns inputs form → IsCombination p inputs vector [] coefficients

-- the vector at a place is
pub record IsCombined (p : ℕ) (form : Form) (vectors : List Coordinates) (place : ℕ) (coefficients : List ℕ) : Type 0 where
  pub vector : Coordinates
  pub at : slice_get vectors place ≡ Some vector
  pub combination : IsCombinedOf p form vector coefficients
