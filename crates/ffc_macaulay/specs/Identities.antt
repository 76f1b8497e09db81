-- Sums of multiples of generators up to a degree that are 1 (Hilbert's Nullstellensatz with a bound on degrees).
use Rattle.std.specs.Prelude.{◌≡◌, ℕ, ◌<◌, ◌≤◌, List, [], All, Contains, length, slice_index, slice_index_or}
use Rattle.ffc_refutation.specs.Combinations.{Summand, sum_of}
use Rattle.ffc_ring.specs.Polynomial.{Terms, SamePolynomial}
use Rattle.ffc_trees.specs.Normal.{IsNormal}
use Rattle.ffc_trees.specs.NodePolynomials.{constant}
use Rattle.ffc_bounds.specs.Monomials.{monomials}
pub use Rattle.ffc_bounds.specs.Combinations.{IsMultiple}

-- the monomials of each generator are among those up to its stated degree, which is at most d
pub record AreGenerators (d : ℕ) (xs degrees : List ℕ) (generators : List Terms) : Type 0 where
  pub long : length degrees ≡ length generators
  pub low : All (λ e. e ≤ d) degrees
  pub within : (i : ℕ) → i < length generators → All (λ t. Contains (monomials (slice_index degrees i) xs) t.1) (slice_index_or generators i [])

-- the lines are the generators, each with different monomials and with coefficients from 1 to p - 1
pub record AreLinesOf (p : ℕ) (generators lines : List Terms) : Type 0 where
  pub long : length lines ≡ length generators
  pub same : (i : ℕ) → i < length generators → SamePolynomial p (slice_index_or lines i []) (slice_index_or generators i [])
  pub normal : (i : ℕ) → i < length generators → IsNormal p (slice_index_or lines i [])

-- no sum of multiples within the degree is 1
abbrev pub HasNoIdentity : ℕ → ℕ → List ℕ → List ℕ → List Terms → Type 0
HasNoIdentity p d xs degrees lines =
    (summands : List Summand) → All (IsMultiple p d xs degrees) summands → SamePolynomial p (sum_of lines summands) (constant 1) → ⊥
