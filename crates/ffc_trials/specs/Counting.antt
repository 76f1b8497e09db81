-- Assignments that follow one another like numbers: the constants have the digits of the assignment's number, the least first, and
-- the next assignment is made by adding one with a carry.
use Rattle.std.specs.Prelude.{◌≡◌, ℕ, ◌+◌, ◌==◌, nat_lt, if◌then◌else◌, List, [], ◌∷◌, map}
use Rattle.std.specs.List.{AllByRecursion}
use Rattle.ffc_term.specs.declared.node.Node.{Node}
use Rattle.ffc_term.specs.declared.node.Node.TheVariants.{BoolConst, FieldConst}
use Rattle.ffc_term.specs.declared.value.Value.{Value}
use Rattle.ffc_term.specs.Nodes.{node_at}
use Rattle.ffc_term.specs.Values.{truth, residue}
use Rattle.ffc_term.specs.Measuring.{value_count}
use Rattle.ffc_rules.specs.Assignments.{value_of_constant, digits}
use Rattle.ffc_check.specs.Assigning.{with_value}

-- a value of a constant as a number, 1 for true; 0 where it is none of the constant's
abbrev pub number_for : Node → Value → ℕ
number_for (BoolConst k) v = if truth v then 1 else 0
number_for (FieldConst k p) v = if nat_lt (residue v) p then residue v else 0
number_for _ v = 0

-- what an assignment gives the constant with this node, as a number
abbrev pub number_given : List Node → List Value → ℕ → ℕ
number_given nodes values id = number_for (node_at nodes id) (value_of_constant nodes values id)

-- the assignment gives each of these constants the number that is listed for it
abbrev pub GivesNumbers : List Node → List Value → List (ℕ × ℕ) → Type 0
GivesNumbers nodes values pairs = AllByRecursion (λ p. number_given nodes values p.0 ≡ p.1) pairs

-- the assignment has this number, as far as these constants go
abbrev pub HasDigits : List Node → List ℕ → List Value → ℕ → Type 0
HasDigits nodes constants values k = GivesNumbers nodes values (digits nodes constants k)

-- the values after one is added to the number that these constants make
abbrev pub advanced : List Node → List ℕ → List Value → List Value
advanced nodes [] values = values
advanced nodes (id ∷ ids) values =
    if number_given nodes values id + 1 == value_count (node_at nodes id)
    then advanced nodes ids (with_value nodes values (id, 0))
    else with_value nodes values (id, number_given nodes values id + 1)

-- each of these constants with what the assignment gives it
abbrev pub numbers_listed : List Node → List Value → List ℕ → List (ℕ × ℕ)
numbers_listed nodes values ids = map (λ id. (id, number_given nodes values id)) ids
