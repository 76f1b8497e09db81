-- Conjunctions of equations and disequations over one field: what is asserted, node by node, down through `and`.
use Rattle.std.specs.Prelude.{ℕ, ◌+◌, Bool, true, false, ◌==◌, nat_lt, List, [], ◌∷◌, ◌++◌, length, filter, flat_map, if◌then◌else◌}
use Rattle.std.specs.List.{list_all, range_with_len}
use Rattle.ffc_term.specs.declared.node.Node.{Node}
use Rattle.ffc_term.specs.declared.node.Node.TheVariants.{True, FieldConst, Not, And, Eq, IteField}
use Rattle.ffc_term.specs.Nodes.{node_at, order_at}
use Rattle.ffc_rules.specs.Cones.{is_listed, cone, is_equality}

-- the parts of a conjunction
abbrev pub conjuncts : Node → List ℕ
conjuncts (And ids) = ids
conjuncts _ = []

-- The listed nodes with the parts of each `and` among them, the parts of these and so on, some of them more than once: those
-- that are found from the last of some nodes down to the first, which is numbered k.
unfoldable pub asserted_from : List ℕ → ℕ → List Node → List ℕ
asserted_from ids k [] = ids
asserted_from ids k (n ∷ ns) =
    let above = asserted_from ids (k + 1) ns in if is_listed above k then conjuncts n ++ above else above

-- the nodes that are asserted where the listed ones are, each once, in increasing order
unfoldable pub asserted : List Node → List ℕ → List ℕ
asserted nodes ids = let found = asserted_from ids 0 nodes in filter (λ id. is_listed found id) (range_with_len 0 (length nodes))

-- a node that a conjunction of equations and disequations may have
abbrev pub is_plain : List Node → Node → Bool
is_plain nodes True = true
is_plain nodes (And ids) = true
is_plain nodes (Eq a b) = true
is_plain nodes (Not a) = is_equality (node_at nodes a)
is_plain nodes _ = false

-- what is asserted is made of true, equalities and negations of equalities by `and` alone
unfoldable pub is_conjunction : List Node → List ℕ → Bool
is_conjunction nodes ids = list_all (λ id. is_plain nodes (node_at nodes id)) (asserted nodes ids)

-- the equalities that are asserted
abbrev pub equations : List Node → List ℕ → List ℕ
equations nodes ids = filter (λ id. is_equality (node_at nodes id)) (asserted nodes ids)

abbrev pub negated_node : Node → List ℕ
negated_node (Not a) = a ∷ []
negated_node _ = []

-- The equalities that are asserted under `not`. A table has each negation once, so each is listed once.
abbrev pub disequations : List Node → List ℕ → List ℕ
disequations nodes ids =
    filter (λ id. is_equality (node_at nodes id)) (flat_map (λ id. negated_node (node_at nodes id)) (asserted nodes ids))

-- the field nodes among the nodes of the check
abbrev pub field_nodes : List Node → List ℕ → List ℕ
field_nodes nodes ids = filter (λ id. nat_lt 0 (order_at nodes id)) (cone nodes ids)

abbrev pub first_order_of : List Node → List ℕ → ℕ
first_order_of nodes [] = 2
first_order_of nodes (id ∷ ids) = order_at nodes id

-- the order of the first of them, and 2 where there is none
abbrev pub field_order : List Node → List ℕ → ℕ
field_order nodes ids = first_order_of nodes (field_nodes nodes ids)

-- they are all of this order
abbrev pub has_order : List Node → List ℕ → ℕ → Bool
has_order nodes ids p = list_all (λ id. order_at nodes id == p) (field_nodes nodes ids)

abbrev pub has_one_order : List Node → List ℕ → Bool
has_one_order nodes ids = has_order nodes ids (field_order nodes ids)

abbrev pub is_field_constant : Node → Bool
is_field_constant (FieldConst k p) = true
is_field_constant _ = false

-- the field constants among the nodes of the check
abbrev pub field_constants : List Node → List ℕ → List ℕ
field_constants nodes ids = filter (λ id. is_field_constant (node_at nodes id)) (cone nodes ids)

abbrev pub is_field_ite : Node → Bool
is_field_ite (IteField c a b) = true
is_field_ite _ = false

-- no `ite` of field sort is among the nodes of the check
abbrev pub has_no_ite : List Node → List ℕ → Bool
has_no_ite nodes ids = list_all (λ id. if is_field_ite (node_at nodes id) then false else true) (cone nodes ids)
