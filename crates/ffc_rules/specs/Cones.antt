-- The nodes of a check as they are found, from the highest number down, and what is counted of them.
use Rattle.std.specs.Prelude.{ℕ, ◌+◌, ◌*◌, Bool, true, false, ◌==◌, ◌||◌, List, [], ◌∷◌, ◌++◌, length, filter, if◌then◌else◌}
use Rattle.std.specs.List.{list_any, range_with_len}
use Rattle.ffc_term.specs.declared.node.Node.{Node}
use Rattle.ffc_term.specs.declared.node.Node.TheVariants.{IteField, Eq}
use Rattle.ffc_term.specs.Nodes.{children, node_at, is_constant}
use Rattle.ffc_term.specs.Tables.{second_equality}
use Rattle.ffc_term.specs.Measuring.{span_of}

abbrev pub is_listed : List ℕ → ℕ → Bool
is_listed ids id = list_any (λ k. id == k) ids

-- The listed nodes with their children, the children of these and so on, some of them more than once: those that are found
-- from the last of some nodes down to the first, which is numbered k.
unfoldable pub reached : List ℕ → ℕ → List Node → List ℕ
reached ids k [] = ids
reached ids k (n ∷ ns) = let above = reached ids (k + 1) ns in if is_listed above k then children n ++ above else above

-- id numbers an equality of this node, numbered t, with one of its branches
abbrev pub is_equality_of : ℕ → ℕ → Node → Bool
is_equality_of id t (IteField c a b) = id == t + 1 || id == second_equality t a b
is_equality_of id t _ = false

abbrev pub is_equality_among : List Node → List ℕ → ℕ → Bool
is_equality_among nodes ids id = list_any (λ t. is_equality_of id t (node_at nodes t)) ids

-- the nodes of the check over ids, each once, in increasing order
unfoldable pub cone : List Node → List ℕ → List ℕ
cone nodes ids =
    let found = reached ids 0 nodes in
    filter (λ id. is_listed found id || is_equality_among nodes found id) (range_with_len 0 (length nodes))

-- the constants among them
abbrev pub cone_constants : List Node → List ℕ → List ℕ
cone_constants nodes ids = filter (λ id. is_constant (node_at nodes id)) (cone nodes ids)

abbrev pub is_equality : Node → Bool
is_equality (Eq a b) = true
is_equality _ = false

-- the equalities of field sort among them
abbrev pub atoms : List Node → List ℕ → List ℕ
atoms nodes ids = filter (λ id. is_equality (node_at nodes id)) (cone nodes ids)

-- how many assignments of the constants there are
abbrev pub span : List Node → List ℕ → ℕ
span nodes ids = span_of nodes (cone nodes ids)

-- that number times the number of nodes
abbrev pub work : List Node → List ℕ → ℕ
work nodes ids = span nodes ids * length (cone nodes ids)
