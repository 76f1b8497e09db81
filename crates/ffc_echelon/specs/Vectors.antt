-- Vectors over the integers modulo p by their coordinates other than 0, and sums of multiples of them.
use Rattle.std.specs.Prelude.{ℕ, suc, ◌+◌, ◌*◌, ◌%◌, ◌<◌, ◌≤◌, ◌==◌, List, [], ◌∷◌, All, sum_by, slice_index_or, if◌then◌else◌}

-- pairs of column and coordinate
abbrev pub Coordinates : Type 0
Coordinates = List (ℕ × ℕ)

-- the columns increase strictly from `low` on, and each coordinate is from 1 to p - 1
abbrev pub AreCoordinatesFrom : ℕ → ℕ → Coordinates → Type 0
AreCoordinatesFrom p low [] = Unit {0}
AreCoordinatesFrom p low (e ∷ v) = (low ≤ e.0) × (0 < e.1) × (e.1 < p) × AreCoordinatesFrom p (suc e.0) v

abbrev pub AreCoordinates : ℕ → Coordinates → Type 0
AreCoordinates p v = AreCoordinatesFrom p 0 v

-- the coordinate in a column
abbrev pub coordinate : Coordinates → ℕ → ℕ
coordinate [] k = 0
coordinate (e ∷ v) k = if e.0 == k then e.1 else coordinate v k

-- the columns are below a number
abbrev pub IsBelow : ℕ → Coordinates → Type 0
IsBelow n v = All (λ e. e.0 < n) v

-- the product with a point, which is given by its coordinates in order
abbrev pub dot : ℕ → List ℕ → Coordinates → ℕ
dot p point v = sum_by (λ e. e.1 * slice_index_or point e.0 0) v % p

-- the sum of the vectors' coordinates in a column, each times the coefficient of its vector
abbrev pub sum_in : List ℕ → List Coordinates → ℕ → ℕ
sum_in [] vs k = 0
sum_in (c ∷ cs) [] k = 0
sum_in (c ∷ cs) (v ∷ vs) k = c * coordinate v k + sum_in cs vs k
