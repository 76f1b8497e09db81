-- Constants get values one after another.
use Rattle.std.specs.Prelude.{ℕ, List, [], ◌∷◌, slice_set}
use Rattle.ffc_term.specs.declared.node.Node.{Node}
use Rattle.ffc_term.specs.declared.value.Value.{Value}
use Rattle.ffc_term.specs.Nodes.{node_at}
use Rattle.ffc_rules.specs.Assignments.{number_of_constant, value_of_number}

-- the values after a constant has got one
abbrev pub with_value : List Node → List Value → ℕ × ℕ → List Value
with_value nodes values p = slice_set values (number_of_constant (node_at nodes p.0)) (value_of_number (node_at nodes p.0) p.1)

-- the values after each listed constant has got its own, in turn
abbrev pub with_values : List Node → List Value → List (ℕ × ℕ) → List Value
with_values nodes values [] = values
with_values nodes values (p ∷ pairs) = with_values nodes (with_value nodes values p) pairs
