-- What an echelon form of the matrix says of a variable. The unit vector of its column is reduced by the rows: where a constant is
-- left, the variable less the constant is a sum of the rows.
use Rattle.std.specs.Prelude.{◌≡◌, ◌⊎◌, ℕ, ◌<◌, List, [], ◌∷◌, All, Contains, Some, length, slice_index_or}
use Rattle.ffc_echelon.specs.Vectors.{Coordinates, AreCoordinates}
use Rattle.ffc_echelon.specs.Forms.{Kept, Multiplier, IsRestOf, IsReduced, IsCombination, LeadsIn, leading_column}
use Rattle.ffc_refutation.specs.declared.combination.Determined.{Determined}
use Rattle.ffc_ring.specs.Monomial.{Monomial}
use Rattle.ffc_macaulay.specs.Refuting.{summands_of}

-- the unknown in the column is the variable
pub record IsColumnOf (unknowns : List Monomial) (x c : ℕ) : Type 0 where
  pub inside : c < length unknowns
  pub at : slice_index_or unknowns c [] ≡ (x, 1) ∷ []

-- a combination of the rows is the unit vector of the column less a constant, which stands after so many unknowns
pub record IsValueIn (p n : ℕ) (multiples : List (ℕ × Monomial)) (rows : List Coordinates) (c : ℕ) (d : Determined) : Type 0 where
  pub coefficients : List ℕ
  pub residues : All (λ x. x < p) coefficients
  pub value : d.value < p
  pub sum : IsCombination p rows ((c, 1) ∷ []) ((n, d.value) ∷ []) coefficients
  pub summands_are : d.summands.items ≡ summands_of multiples coefficients

-- what is left of the unit vector has a coordinate in the column of an unknown
pub record IsOpenIn (p n : ℕ) (kept : List Kept) (c : ℕ) : Type 0 where
  pub rest : Coordinates
  pub multipliers : List Multiplier
  pub sum : IsRestOf p kept ((c, 1) ∷ []) rest multipliers
  pub reduced : IsReduced kept rest
  pub valid : AreCoordinates p rest
  pub column : ℕ
  pub leads : leading_column rest ≡ Some column
  pub unknown : column < n

-- a row leads in the column of the variable
pub record IsLed (unknowns : List Monomial) (kept : List Kept) (x c : ℕ) : Type 0 where
  pub column : IsColumnOf unknowns x c
  pub row : LeadsIn kept c

-- a combination of the rows is the variable less a constant
pub record IsValueOf (p : ℕ) (unknowns : List Monomial) (multiples : List (ℕ × Monomial)) (rows : List Coordinates) (x : ℕ) (d : Determined) : Type 0 where
  pub column : ℕ
  pub is : IsColumnOf unknowns x column
  pub value : IsValueIn p (length unknowns) multiples rows column d

-- one of the variables is not determined: no row leads in its column, or more than a constant is left of its unit vector
pub record HasOpen (p : ℕ) (unknowns : List Monomial) (kept : List Kept) (xs : List ℕ) : Type 0 where
  pub variable : ℕ
  pub among : Contains xs variable
  pub column : ℕ
  pub is : IsColumnOf unknowns variable column
  pub cause : (LeadsIn kept column → ⊥) ⊎ IsOpenIn p (length unknowns) kept column
