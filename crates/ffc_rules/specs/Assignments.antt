-- Assignments of constants: the one that lists values, and the one of each number. In the assignment of a number the
-- constants have its digits, the least first, each below its constant's number of values.
use Rattle.std.specs.Prelude.{ℕ, ◌<◌, ◌/◌, ◌%◌, false, Bool, ◌==◌, if◌then◌else◌, List, [], ◌∷◌, map}
use Rattle.std.specs.List.{list_any, list_all, range_with_len}
use Rattle.ffc_term.specs.declared.node.Node.{Node}
use Rattle.ffc_term.specs.declared.node.Node.TheVariants.{BoolConst, FieldConst}
use Rattle.ffc_term.specs.declared.value.Value.{Value}
use Rattle.ffc_term.specs.declared.value.Value.TheVariants as value
use Rattle.ffc_term.specs.Nodes.{node_at}
use Rattle.ffc_term.specs.Tables.{constant_count}
use Rattle.ffc_term.specs.Values.{values, value_in, truth_in}
use Rattle.ffc_term.specs.Measuring.{value_count}
use Rattle.ffc_rules.specs.Cones.{cone_constants}

-- a constant's number among all constants
abbrev pub number_of_constant : Node → ℕ
number_of_constant (BoolConst k) = k
number_of_constant (FieldConst k p) = k
number_of_constant _ = 0

-- a number as a value of a constant, 1 as true
abbrev pub value_of_number : Node → ℕ → Value
value_of_number (BoolConst k) n = value.Bool (n == 1)
value_of_number (FieldConst k p) n = value.Field n
value_of_number _ n = value.Bool false

-- what an assignment gives the constant with this node
abbrev pub value_of_constant : List Node → List Value → ℕ → Value
value_of_constant nodes assignment id = value_in assignment (number_of_constant (node_at nodes id))

-- The value that is listed for the constant numbered k, by its node. Where none is, it is false, or 0 for a field constant.
abbrev pub listed_value : List Node → List (ℕ × ℕ) → ℕ → Value
listed_value nodes [] k = value.Bool false
listed_value nodes (p ∷ pairs) k =
    if number_of_constant (node_at nodes p.0) == k then value_of_number (node_at nodes p.0) p.1 else listed_value nodes pairs k

-- the assignment of all constants of a table by a list of nodes and their values
unfoldable pub listed_assignment : List Node → List (ℕ × ℕ) → List Value
listed_assignment nodes pairs = map (listed_value nodes pairs) (range_with_len 0 (constant_count nodes))

-- the digits of k, one for each of these constants
abbrev pub digits : List Node → List ℕ → ℕ → List (ℕ × ℕ)
digits nodes [] k = []
digits nodes (id ∷ ids) k = (id, k % value_count (node_at nodes id)) ∷ digits nodes ids (k / value_count (node_at nodes id))

-- the assignment numbered k, of these constants
unfoldable pub numbered_assignment : List Node → List ℕ → ℕ → List Value
numbered_assignment nodes constants k = listed_assignment nodes (digits nodes constants k)

-- all listed nodes are true
abbrev pub are_true : List Node → List ℕ → List Value → Bool
are_true nodes ids assignment = let known = values nodes assignment in list_all (truth_in known) ids

-- one of the first assignments of the check's constants, so many, makes all listed nodes true
unfoldable pub has_model_below : List Node → List ℕ → ℕ → Bool
has_model_below nodes ids count =
    let constants = cone_constants nodes ids in
    list_any (λ k. are_true nodes ids (numbered_assignment nodes constants k)) (range_with_len 0 count)

-- one of the values of a constant
abbrev pub IsValueFor : Node → Value → Type 0
IsValueFor (BoolConst k) (value.Bool b) = Unit {0}
IsValueFor (FieldConst k p) (value.Field n) = n < p
IsValueFor _ _ = ⊥
