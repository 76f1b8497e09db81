-- Equalities of a check that may be generators.
use Rattle.std.specs.Prelude.{◌≡◌, ℕ, ◌<◌, ◌≤◌, ◌&&◌, Bool, true, List, length}
use Rattle.ffc_clause.specs.Clauses.{Literal, is_among}
use Rattle.ffc_rules.specs.Cones.{is_equality}
use Rattle.ffc_rules.specs.Entries.{is_equality_at}
use Rattle.ffc_term.specs.declared.node.Node.{Node}
use Rattle.ffc_term.specs.Measuring.{degree_at, length_at}
use Rattle.ffc_term.specs.Nodes.{node_at}

-- an equality whose literal with this truth value is among some
abbrev pub is_forced_equality : List Node → List Literal → Bool → ℕ → Bool
is_forced_equality nodes literals truth id = is_equality (node_at nodes id) && is_among literals (truth, id)

-- a node within the limit on degrees
pub record IsLow (nodes : List Node) (id : ℕ) : Type 0 where
  pub inside : id < length nodes
  pub low : degree_at nodes id ≤ 255

-- an equality of the order p within the limits on degree and length
pub record IsUsable (p : ℕ) (nodes : List Node) (id : ℕ) : Type 0 where
  pub equality : is_equality_at nodes p id ≡ true
  pub low : degree_at nodes id ≤ 255
  pub short : length_at nodes id ≤ 65536
