-- How far an elimination has come, and the table of its rows by the columns in which they lead.
use Rattle.std.specs.Prelude.{◌≡◌, ℕ, ◌*◌, ◌%◌, ◌<◌, ◌≤◌, List, All, length, map, take, slice_get, Option, Some}
use Rattle.ffc_field.specs.Modular.{mul_mod}
use Rattle.ffc_echelon.specs.Vectors.{Coordinates, AreCoordinates, coordinate, sum_in}
use Rattle.ffc_echelon.specs.Forms.{Kept, Multiplier, AreLeading, IsKeptOf, IsSpanned, KeepsZeros, leading_column, multiple_in}

-- a vector times a scale
abbrev pub scaled : ℕ → ℕ → Coordinates → Coordinates
scaled p s v = map (λ e. (e.0, mul_mod p s e.1)) v

-- a row made of a rest whose first coordinate is `lead`
pub record IsRowOf (p lead input : ℕ) (rest : Coordinates) (multipliers : List Multiplier) (r : Kept) : Type 0 where
  pub coordinates : r.coordinates ≡ scaled p r.scale rest
  pub input_is : r.input ≡ input
  pub multipliers_are : r.multipliers ≡ multipliers
  pub inverse : mul_mod p lead r.scale ≡ 1
  pub below : r.scale < p

-- for each column of an unknown the kept row that leads there
pub record AreLeads (n : ℕ) (kept : List Kept) (leads : List (Option ℕ)) : Type 0 where
  pub long : length leads ≡ n
  pub row : (c j : ℕ) → slice_get leads c ≡ Some (Some j) → (r : Kept) × (slice_get kept j ≡ Some r) × (leading_column r.coordinates ≡ Some c)
  pub lead : (j c : ℕ) (r : Kept) → slice_get kept j ≡ Some r → leading_column r.coordinates ≡ Some c → slice_get leads c ≡ Some (Some j)

-- each row is made of an input
abbrev pub AreKeptOf : ℕ → List Coordinates → List Kept → Type 0
AreKeptOf p inputs kept = (j : ℕ) (r : Kept) → slice_get kept j ≡ Some r → IsKeptOf p inputs kept j r

-- an echelon form of the first inputs, so many of them
pub record IsFormOfFirst (p n : ℕ) (inputs : List Coordinates) (count : ℕ) (kept : List Kept) (leads : List (Option ℕ)) : Type 0 where
  pub valid : All (λ r. AreCoordinates p r.coordinates) kept
  pub leading : AreLeading n kept
  pub table : AreLeads n kept leads
  pub short : length kept ≤ count
  pub made : AreKeptOf p inputs kept
  pub spans : All (IsSpanned p kept) (take count inputs)
  pub zeros : KeepsZeros p (take count inputs) kept

-- coefficients with which the inputs sum to so many times multiples of kept rows
pub record IsSumOf (p : ℕ) (inputs : List Coordinates) (kept : List Kept) (scale : ℕ) (multipliers : List Multiplier) (coefficients : List ℕ) : Type 0 where
  pub long : length coefficients ≡ length inputs
  pub sum : (k : ℕ) → sum_in coefficients inputs k % p ≡ (scale * multiple_in kept multipliers k) % p

-- coefficients with which the inputs sum to a vector
pub record AreCoefficientsOf (p : ℕ) (inputs : List Coordinates) (vector : Coordinates) (coefficients : List ℕ) : Type 0 where
  pub long : length coefficients ≡ length inputs
  pub sum : (k : ℕ) → sum_in coefficients inputs k % p ≡ coordinate vector k % p
