-- Values that are known of some constants.
use Rattle.std.specs.Prelude.{ℕ, ◌<◌, List, All, map}
use Rattle.std.specs.List.Sorted.{IsStrictlyIncreasing}
use Rattle.ffc_term.specs.declared.value.Value.{Value}
use Rattle.ffc_term.specs.Measuring.{value_count}
use Rattle.ffc_term.specs.Nodes.{IsConstantAt, node_at}
use Rattle.ffc_rules.specs.Clauses.{AreTrue}
use Rattle.ffc_rules.specs.Entries.{NodeCheck}
use Rattle.ffc_rules.specs.Laws.{Agrees}

-- values of constants in increasing order, with which all that is active is true, whatever the other constants are
pub record AreModelValuesOf (c : NodeCheck) (pairs : List (ℕ × ℕ)) : Type 0 where
  pub increasing : IsStrictlyIncreasing (map (λ p. p.0) pairs)
  pub constants : All (λ p. IsConstantAt c.nodes p.0) pairs
  pub fit : All (λ p. p.1 < value_count (node_at c.nodes p.0)) pairs
  pub true_of : (assignment : List Value) → Agrees c.nodes pairs assignment → AreTrue c.nodes c.in_force assignment
