-- Values for unknowns, placed one after another.
use Rattle.std.specs.Prelude.{◌≡◌, ◌≢◌, ℕ, suc, ◌<◌, ◌≤◌, ◌⊎◌, ◌+◌, List, [], ◌∷◌, All, Bool, Option, Some, length, slice_get, slice_index_or, slice_set}
use Rattle.ffc_field.specs.Modular.{mul_mod}
use Rattle.ffc_echelon.specs.Vectors.{Coordinates, AreCoordinates, IsBelow, coordinate, dot}
use Rattle.ffc_echelon.specs.Forms.{Form, Kept}

-- a form of which only unknowns and rows matter
abbrev pub form_of : ℕ → List Kept → Form
form_of n kept = record { unknowns = n; inputs = 0; kept = kept }

-- with this residue in a column the vector is 0 at the point, and with no other
pub record IsRootIn (p : ℕ) (point : List ℕ) (v : Coordinates) (k r : ℕ) : Type 0 where
  pub zero : dot p (slice_set point k r) v ≡ 0
  pub only : (y : ℕ) → y < p → dot p (slice_set point k y) v ≡ 0 → y ≡ r

-- no coordinate in the columns of unknowns from `low` on
abbrev pub EndsBefore : ℕ → ℕ → Coordinates → Type 0
EndsBefore n low v = (c : ℕ) → low ≤ c → c < n → coordinate v c ≡ 0

-- the last column of an unknown in which there is a coordinate, and that coordinate
pub record IsLastUnknown (n : ℕ) (v : Coordinates) (column value : ℕ) : Type 0 where
  pub inside : column < n
  pub at : coordinate v column ≡ value
  pub nonzero : value ≢ 0
  pub last : EndsBefore n (suc column) v

-- a vector other than 0 that has no coordinate where a row leads
pub record IsFree (p : ℕ) (leads : List (Option ℕ)) (v : Coordinates) : Type 0 where
  pub valid : AreCoordinates p v
  pub within : IsBelow (length leads + 1) v
  pub reduced : (c j : ℕ) → slice_get leads c ≡ Some (Some j) → coordinate v c ≡ 0
  pub nonzero : v ≢ []

abbrev pub vector_at : List Coordinates → ℕ → Coordinates
vector_at vs j = slice_index_or vs j []

-- the number of a vector, with the inverse of its coordinate in a column
pub record Excludes {F : Type 0} (p : ℕ) (value : F → ℕ) (vs : List Coordinates) (column : ℕ) (m : ℕ × F) : Type 0 where
  pub there : m.0 < length vs
  pub inverse : mul_mod p (coordinate (vector_at vs m.0) column) (value m.1) ≡ 1

-- one of them has this number
abbrev pub HasNumber : {F : Type 0} → ℕ → List (ℕ × F) → Type 0
HasNumber j [] = ⊥
HasNumber j (m ∷ ms) = (m.0 ≡ j) ⊎ HasNumber j ms

abbrev pub group_at : {F : Type 0} → List (List (ℕ × F)) → ℕ → List (ℕ × F)
group_at groups c = slice_index_or groups c []

-- of each column those of the first vectors, so many, whose last unknown it has
pub record AreGroups {F : Type 0} (p : ℕ) (value : F → ℕ) (n : ℕ) (vs : List Coordinates) (count : ℕ) (groups : List (List (ℕ × F))) : Type 0 where
  pub long : length groups ≡ n
  pub exclude : (c : ℕ) → All (Excludes p value vs c) (group_at groups c)
  pub covered : (j c : ℕ) → j < count → c < n → coordinate (vector_at vs j) c ≢ 0 → EndsBefore n (suc c) (vector_at vs j) → HasNumber j (group_at groups c)
  pub short : (c : ℕ) → length (group_at groups c) ≤ count

-- at this point none of these vectors is 0
abbrev pub AreApart : {F : Type 0} → ℕ → List ℕ → List Coordinates → List (ℕ × F) → Type 0
AreApart p point vs [] = Unit {0}
AreApart p point vs (m ∷ ms) = (dot p point (vector_at vs m.0) ≢ 0) × AreApart p point vs ms

-- a point that differs from another one in a column alone
abbrev pub DiffersAt : List ℕ → List ℕ → ℕ → Type 0
DiffersAt old new k = new ≡ slice_set old k (slice_index_or new k 0)

-- whether a mark is set
abbrev pub is_marked : Bool → Bool
is_marked b = b
