-- Orders of unknowns, and vectors with their columns in such an order. The column of the constant stays the last.
use Rattle.std.specs.Prelude.{◌≡◌, ℕ, zero, suc, ◌+◌, ◌<◌, List, [], ◌∷◌, ◌++◌, length, map, slice_index_or}
use Rattle.ffc_echelon.specs.Vectors.{Coordinates, AreCoordinates, IsBelow, coordinate}

-- the numbers below n, in order
abbrev pub numbers_below : ℕ → List ℕ
numbers_below zero = []
numbers_below (suc n) = numbers_below n ++ n ∷ []

-- the column i of r is the column of v whose number stands at the place i
pub record IsReordered (p : ℕ) (order : List ℕ) (v r : Coordinates) : Type 0 where
  pub each : (i : ℕ) → i < length order → coordinate r i ≡ coordinate v (slice_index_or order i 0)
  pub last : coordinate r (length order) ≡ coordinate v (length order)
  pub before : IsBelow (length order + 1) v
  pub within : IsBelow (length order + 1) r
  pub given : AreCoordinates p v
  pub valid : AreCoordinates p r

-- of each vector in turn
abbrev pub AreReordered : ℕ → List ℕ → List Coordinates → List Coordinates → Type 0
AreReordered p order [] [] = Unit {0}
AreReordered p order [] (r ∷ rs) = ⊥
AreReordered p order (v ∷ vs) [] = ⊥
AreReordered p order (v ∷ vs) (r ∷ rs) = IsReordered p order v r × AreReordered p order vs rs

-- the unknown that stands at a place has the value at that place, at each of the first places
abbrev pub ArePlaced : {F : Type 0} → (F → ℕ) → List ℕ → List F → ℕ → List F → Type 0
ArePlaced value order values count point =
    (i : ℕ) → i < count → slice_index_or (map value point) (slice_index_or order i 0) 0 ≡ slice_index_or (map value values) i 0
