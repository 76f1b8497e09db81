-- Macaulay's matrix of a degree, with a row for each multiple of a generator by a monomial, and a column for each monomial.
use Rattle.std.specs.Prelude.{◌≡◌, ℕ, suc, ◌+◌, ◌-◌, ◌%◌, ◌<◌, ◌≤◌, ◌⊎◌, List, [], ◌∷◌, ◌++◌, All, Contains, length, map, slice_index_or}
use Rattle.std.specs.List.{AllZip, IsDistinct}
use Rattle.ffc_echelon.specs.Vectors.{Coordinates, AreCoordinates, IsBelow, coordinate}
use Rattle.ffc_echelon.proofs.Dots.{product_below}
use Rattle.ffc_ring.specs.Monomial.{Monomial, degree, mono_mul, same_monomial}
use Rattle.ffc_ring.specs.Polynomial.{Terms}
use Rattle.ffc_ring.proofs.PolynomialLemmas.{weighted}
use Rattle.ffc_bounds.specs.Monomials.{monomials}

-- the rows: the number of a generator, from k on, and the monomial that it is multiplied by
abbrev pub multiples_from : ℕ → List ℕ → ℕ → List ℕ → List (ℕ × Monomial)
multiples_from d xs k [] = []
multiples_from d xs k (e ∷ degrees) = map (λ u. (k, u)) (monomials (d - e) xs) ++ multiples_from d xs (suc k) degrees

-- the monomials of one degree among some are added
pub record AddsOfDegree (d : ℕ) (ms old new : List Monomial) : Type 0 where
  pub kept : (m : Monomial) → Contains old m → Contains new m
  pub added : (m : Monomial) → Contains ms m → degree m ≡ d → Contains new m
  pub only : (m : Monomial) → Contains new m → Contains old m ⊎ (Contains ms m × (degree m ≡ d))

-- those of degrees above d
pub record AreAbove (d : ℕ) (ms unknowns : List Monomial) : Type 0 where
  pub only : (m : Monomial) → Contains unknowns m → Contains ms m × (d < degree m)
  pub all : (m : Monomial) → Contains ms m → d < degree m → Contains unknowns m

-- each once
pub record AreUnknowns (d : ℕ) (ms unknowns : List Monomial) : Type 0 where
  pub above : AreAbove d ms unknowns
  pub once : IsDistinct same_monomial unknowns

-- the sum of the coordinates, each times the weight of its column's monomial: what the linear function with these values at
-- monomials has at a row
abbrev pub weight_of : (Monomial → ℕ) → List Monomial → (ℕ → ℕ) → ℕ
weight_of f columns coordinates = product_below (λ k. f (slice_index_or columns k [])) coordinates (length columns)

-- a generator times the monomial, as a row: every linear function has the same value at both
pub record IsRow (p : ℕ) (columns : List Monomial) (generator : Terms) (u : Monomial) (v : Coordinates) : Type 0 where
  pub below : IsBelow (length columns) v
  pub valid : AreCoordinates p v
  pub same : (f : Monomial → ℕ) → weight_of f columns (coordinate v) % p ≡ weighted (λ m. f (mono_mul u m)) generator % p

-- the generator's monomials times this one have columns
pub record IsMultiplier (columns : List Monomial) (generator : Terms) (u : Monomial) : Type 0 where
  pub low : All (λ t. degree u + degree t.1 ≤ 1024) generator
  pub among : All (λ t. Contains columns (mono_mul u t.1)) generator

pub record IsUsable (columns : List Monomial) (generators : List Terms) (multiple : ℕ × Monomial) : Type 0 where
  pub there : multiple.0 < length generators
  pub multiplier : IsMultiplier columns (slice_index_or generators multiple.0 []) multiple.1

abbrev pub AreRows : ℕ → List Monomial → List Terms → List (ℕ × Monomial) → List Coordinates → Type 0
AreRows p columns generators multiples rows =
    AllZip (λ m v. IsRow p columns (slice_index_or generators m.0 []) m.1 v) multiples rows

-- the matrix; its columns are those of the unknowns and, last, that of 1
pub record IsMatrix (p d : ℕ) (xs degrees : List ℕ) (generators : List Terms) (unknowns : List Monomial) (multiples : List (ℕ × Monomial)) (rows : List Coordinates) : Type 0 where
  pub unknowns_are : AreUnknowns 0 (monomials d xs) unknowns
  pub multiples_are : multiples ≡ multiples_from d xs 0 degrees
  pub rows_are : AreRows p (unknowns ++ [] ∷ []) generators multiples rows
