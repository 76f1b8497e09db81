-- Equalities whose sides differ by an affine form in some constants.
use Rattle.std.specs.Prelude.{◌≡◌, ℕ, ◌≤◌, true, List, [], ◌∷◌}
use Rattle.ffc_term.specs.declared.node.Node.{Node}
use Rattle.ffc_term.specs.Checks.{IsNodeOf}
use Rattle.ffc_term.specs.Measuring.{degree_at, length_at}
use Rattle.ffc_trees.specs.NodePolynomials.{IsVariableAt}
use Rattle.ffc_rules.specs.Cones.{is_listed}
use Rattle.ffc_rules.specs.Entries.{is_equality_at}

-- an equality of this order, of degree at most 1 and within the limit on lengths, whose variables are among the constants
pub record IsAffineIn (p : ℕ) (nodes : List Node) (constants : List ℕ) (id : ℕ) : Type 0 where
  pub equality : is_equality_at nodes p id ≡ true
  pub low : degree_at nodes id ≤ 1
  pub short : length_at nodes id ≤ 65536
  pub variables : (x : ℕ) → IsNodeOf nodes (id ∷ []) x → IsVariableAt nodes p x → is_listed constants x ≡ true
