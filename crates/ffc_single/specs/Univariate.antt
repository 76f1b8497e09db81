-- Equalities whose sides have one variable at most, as polynomials in one variable.
use Rattle.std.specs.Prelude.{◌≡◌, ℕ, ◌+◌, ◌≤◌, true, List, [], ◌∷◌, length}
use Rattle.ffc_ring.specs.Polynomial.{SamePolynomial}
use Rattle.ffc_rules.specs.Entries.{is_equality_at}
use Rattle.ffc_term.specs.declared.node.Node.{Node}
use Rattle.ffc_term.specs.Checks.{IsNodeOf}
use Rattle.ffc_term.specs.Measuring.{degree_at, length_at}
use Rattle.ffc_term.specs.Nodes.{node_at}
use Rattle.ffc_term.specs.Tables.{IsTable, IsFieldAt}
use Rattle.ffc_trees.specs.FirstLines.{difference_of}
use Rattle.ffc_trees.specs.NodePolynomials.{IsVariableAt}
use Rattle.ffc_uni.specs.Univariate.{Coefficients, IsNormal, terms_in}

-- a field node within the limits under which x is the only variable
pub record IsSideIn (p : ℕ) (nodes : List Node) (x id : ℕ) : Type 0 where
  pub table : IsTable nodes
  pub field : IsFieldAt nodes p id
  pub low : degree_at nodes id ≤ 255
  pub short : length_at nodes id ≤ 65536
  pub variables : (y : ℕ) → IsNodeOf nodes (id ∷ []) y → IsVariableAt nodes p y → y ≡ x

-- an equality of the order within the limits under which x is the only variable
pub record IsEqualityIn (p : ℕ) (nodes : List Node) (x id : ℕ) : Type 0 where
  pub equality : is_equality_at nodes p id ≡ true
  pub low : degree_at nodes id ≤ 255
  pub short : length_at nodes id ≤ 65536
  pub variables : (y : ℕ) → IsNodeOf nodes (id ∷ []) y → IsVariableAt nodes p y → y ≡ x

-- the difference of an equality's sides is the polynomial f in the variable x
pub record IsFormOf (p : ℕ) (nodes : List Node) (x id : ℕ) (f : Coefficients) : Type 0 where
  pub same : SamePolynomial p (terms_in x f) (difference_of p nodes (node_at nodes id))
  pub normal : IsNormal p f
  pub low : length f ≤ degree_at nodes id + 1

-- the same of each of these equalities in turn
abbrev pub AreFormsOf : ℕ → List Node → ℕ → List ℕ → List Coefficients → Type 0
AreFormsOf p nodes x [] [] = Unit {0}
AreFormsOf p nodes x [] (f ∷ fs) = ⊥
AreFormsOf p nodes x (id ∷ ids) [] = ⊥
AreFormsOf p nodes x (id ∷ ids) (f ∷ fs) = IsFormOf p nodes x id f × AreFormsOf p nodes x ids fs
