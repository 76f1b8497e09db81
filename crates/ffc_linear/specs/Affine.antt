-- Equalities of degree 1 as affine forms: a column for each constant in order, and one after them for the number.
use Rattle.std.specs.Prelude.{◌≡◌, ℕ, suc, ◌==◌, List, [], ◌∷◌, length, Option, Some, None, option_map, if◌then◌else◌, ◌+◌}
use Rattle.ffc_ring.specs.Monomial.{Monomial, IsMonomial}
use Rattle.ffc_ring.specs.Polynomial.{coefficient}
use Rattle.ffc_term.specs.declared.node.Node.{Node}
use Rattle.ffc_term.specs.Nodes.{node_at}
use Rattle.ffc_trees.specs.FirstLines.{difference_of}
use Rattle.ffc_echelon.specs.Vectors.{Coordinates, coordinate, IsBelow}

-- the column of a constant
abbrev pub column_of : List ℕ → ℕ → Option ℕ
column_of [] x = None
column_of (id ∷ ids) x = if id == x then Some 0 else option_map suc (column_of ids x)

-- the column of a monomial, if it has one
abbrev pub monomial_column : List ℕ → Monomial → Option ℕ
monomial_column constants [] = Some (length constants)
monomial_column constants ((x, e) ∷ []) = if e == 1 then column_of constants x else None
monomial_column constants (f ∷ g ∷ m) = None

-- the coordinate in a column, if there is one, and else 0
abbrev pub coordinate_if : Coordinates → Option ℕ → ℕ
coordinate_if v None = 0
coordinate_if v (Some k) = coordinate v k

-- the difference of an equality's sides, as an affine form in these constants
pub record IsAffineForm (p : ℕ) (nodes : List Node) (constants : List ℕ) (id : ℕ) (v : Coordinates) : Type 0 where
  pub below : IsBelow (length constants + 1) v
  pub same : (m : Monomial) → IsMonomial m
      → coefficient p (difference_of p nodes (node_at nodes id)) m ≡ coordinate_if v (monomial_column constants m)

-- of each of these equalities in turn
abbrev pub AreAffineForms : ℕ → List Node → List ℕ → List ℕ → List Coordinates → Type 0
AreAffineForms p nodes constants [] [] = Unit {0}
AreAffineForms p nodes constants [] (v ∷ vs) = ⊥
AreAffineForms p nodes constants (id ∷ ids) [] = ⊥
AreAffineForms p nodes constants (id ∷ ids) (v ∷ vs) = IsAffineForm p nodes constants id v × AreAffineForms p nodes constants ids vs
