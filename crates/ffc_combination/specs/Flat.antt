-- Checks whose constants are solved for: conjunctions of equations and disequations without `ite` of field sort.
use Rattle.std.specs.Prelude.{ℕ, ◌&&◌, Bool, Option}
use Rattle.ffc_bounds.specs.Combinations.{node_variables}
use Rattle.ffc_bounds.specs.Conjunctions.{has_no_ite, is_conjunction}
use Rattle.ffc_combination.specs.Choices.{constants_if}
use Rattle.ffc_rules.specs.Entries.{NodeCheck}

abbrev pub is_flat : NodeCheck → Bool
is_flat c = has_no_ite c.nodes c.in_force && is_conjunction c.nodes c.in_force

-- how many constants there are to be solved for, where the check is flat: they are its variables
abbrev pub constants_of : NodeCheck → Option ℕ
constants_of c = constants_if (is_flat c) (node_variables c.nodes c.in_force)
