-- Echelon forms (Gaussian elimination; Knuth, "The Art of Computer Programming", volume 2, section 4.6.2). A row is a vector whose
-- last column is the constant of an affine form; the columns before it are those of its unknowns.
use Rattle.std.specs.Prelude.{◌≡◌, ◌≢◌, ℕ, ◌+◌, ◌*◌, ◌%◌, ◌<◌, ◌≤◌, List, [], ◌∷◌, ◌++◌, All, length, slice_get, Option, Some, None}
use Rattle.ffc_field.specs.Modular.{add_mod, mul_mod}
use Rattle.ffc_echelon.specs.Vectors.{AreCoordinates, Coordinates, coordinate, IsBelow, dot, sum_in}

-- so many times the kept row of this number
abbrev pub Multiplier : Type 0
Multiplier = ℕ × ℕ

-- a kept row: its coordinates, the number of the input that it is made of, the multiples of kept rows that were subtracted from
-- that input, and what the rest was multiplied by
pub record Kept : Type 0 where
  pub coordinates : Coordinates
  pub input : ℕ
  pub multipliers : List Multiplier
  pub scale : ℕ

-- an echelon form of so many inputs in so many unknowns
pub record Form : Type 0 where
  pub unknowns : ℕ
  pub inputs : ℕ
  pub kept : List Kept

abbrev pub coordinates_of : List Kept → ℕ → Coordinates
coordinates_of kept j = elim (slice_get kept j) [ None ↦ [] | Some r ↦ r.coordinates ]

-- the sum of multiples of kept rows in a column
abbrev pub multiple_in : List Kept → List Multiplier → ℕ → ℕ
multiple_in kept [] k = 0
multiple_in kept (m ∷ ms) k = m.1 * coordinate (coordinates_of kept m.0) k + multiple_in kept ms k

-- the rest and the multiples of kept rows have the sum `vector`
pub record IsRestOf (p : ℕ) (kept : List Kept) (vector rest : Coordinates) (multipliers : List Multiplier) : Type 0 where
  pub there : All (λ m. m.0 < length kept) multipliers
  pub sum : (k : ℕ) → add_mod p (coordinate rest k) (multiple_in kept multipliers k) ≡ coordinate vector k % p

-- a sum of multiples of kept rows
abbrev pub IsSpanned : ℕ → List Kept → Coordinates → Type 0
IsSpanned p kept v = (multipliers : List Multiplier) × IsRestOf p kept v [] multipliers

-- a row that leads by 1 in the column of an unknown
abbrev pub LeadsBelow : ℕ → Coordinates → Type 0
LeadsBelow n [] = ⊥
LeadsBelow n (e ∷ v) = (e.0 < n) × (e.1 ≡ 1)

-- the column of the first coordinate
abbrev pub leading_column : Coordinates → Option ℕ
leading_column [] = None
leading_column (e ∷ v) = Some e.0

-- one of the kept rows has its first coordinate in the column
abbrev pub LeadsIn : List Kept → ℕ → Type 0
LeadsIn kept c = (j : ℕ) × (r : Kept) × (slice_get kept j ≡ Some r) × (leading_column r.coordinates ≡ Some c)

-- kept rows lead by 1 in different columns of unknowns
pub record AreLeading (n : ℕ) (kept : List Kept) : Type 0 where
  pub each : All (λ r. LeadsBelow n r.coordinates) kept
  pub within : All (λ r. IsBelow (n + 1) r.coordinates) kept
  pub apart : (i j : ℕ) (a b : Kept) → slice_get kept i ≡ Some a → slice_get kept j ≡ Some b → leading_column a.coordinates ≡ leading_column b.coordinates → i ≡ j

-- The kept row of this number is its input without multiples of kept rows before it, times its scale.
pub record IsKeptOf (p : ℕ) (inputs : List Coordinates) (kept : List Kept) (j : ℕ) (r : Kept) : Type 0 where
  pub input : Coordinates
  pub at : slice_get inputs r.input ≡ Some input
  pub before : All (λ m. m.0 < j) r.multipliers
  pub rest : Coordinates
  pub sum : IsRestOf p kept input rest r.multipliers
  pub scaled : (k : ℕ) → coordinate r.coordinates k ≡ mul_mod p r.scale (coordinate rest k)

-- a point at which all kept rows are 0 is one at which all inputs are
abbrev pub KeepsZeros : ℕ → List Coordinates → List Kept → Type 0
KeepsZeros p inputs kept =
    (point : List ℕ) → All (λ r. dot p point r.coordinates ≡ 0) kept → All (λ v. dot p point v ≡ 0) inputs

-- an echelon form of these inputs: its rows are sums of multiples of the inputs, and the inputs are sums of multiples of its rows
pub record IsFormOf (p n : ℕ) (inputs : List Coordinates) (form : Form) : Type 0 where
  pub unknowns : form.unknowns ≡ n
  pub inputs_are : form.inputs ≡ length inputs
  pub few : length form.kept ≤ length inputs
  pub valid : All (λ r. AreCoordinates p r.coordinates) form.kept
  pub leading : AreLeading n form.kept
  pub kept : (j : ℕ) (r : Kept) → slice_get form.kept j ≡ Some r → IsKeptOf p inputs form.kept j r
  pub spans : All (IsSpanned p form.kept) inputs
  pub zeros : KeepsZeros p inputs form.kept

-- coefficients with which the inputs sum to a constant other than 0
pub record IsContradiction (p n : ℕ) (inputs : List Coordinates) (coefficients : List ℕ) : Type 0 where
  pub long : length coefficients ≡ length inputs
  pub unknowns : (k : ℕ) → k < n → sum_in coefficients inputs k % p ≡ 0
  pub constant : sum_in coefficients inputs n % p ≢ 0

-- a vector without a coordinate in a column in which a kept row leads
abbrev pub IsReduced : List Kept → Coordinates → Type 0
IsReduced kept v = (j c : ℕ) (r : Kept) → slice_get kept j ≡ Some r → leading_column r.coordinates ≡ Some c → coordinate v c ≡ 0

-- coefficients with which the inputs sum to the vector without its rest
pub record IsCombination (p : ℕ) (inputs : List Coordinates) (vector rest : Coordinates) (coefficients : List ℕ) : Type 0 where
  pub long : length coefficients ≡ length inputs
  pub sum : (k : ℕ) → add_mod p (coordinate rest k) (sum_in coefficients inputs k) ≡ coordinate vector k % p

-- a form that is to be other than 0: it is reduced, and not constantly 0
pub record IsAvoided (form : Form) (v : Coordinates) : Type 0 where
  pub within : IsBelow (form.unknowns + 1) v
  pub reduced : IsReduced form.kept v
  pub nonzero : v ≢ []

-- a value for each unknown, at which each kept row is 0 and none of the other forms is
pub record IsSolution (p : ℕ) (form : Form) (forms : List Coordinates) (values : List ℕ) : Type 0 where
  pub long : length values ≡ form.unknowns
  pub zeros : All (λ r. dot p (values ++ 1 ∷ []) r.coordinates ≡ 0) form.kept
  pub apart : All (λ v. dot p (values ++ 1 ∷ []) v ≢ 0) forms
