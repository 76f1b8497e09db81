-- The nodes of a table: their numbers, their children, their sorts (SMT-LIB 2.6, section 3: many-sorted terms).
--
-- A table is seen as the list of its nodes. The number of a node is its place in that list, from 0, and the
-- children of a node come before it. What is stated of each node from what is stated of the nodes before it, as
-- its sort or its value, is a list as long as the table.
use Rattle.std.specs.Prelude.{◌≡◌, ℕ, Bool, true, false, List, [], ◌∷◌, ◌++◌, Some, slice_get, slice_index, slice_index_or, IsTrue}
use Rattle.ffc_term.specs.declared.node.Node.{Node}
use Rattle.ffc_term.specs.declared.node.Node.TheVariants.{True, False, BoolConst, FieldConst, Num, Not, And, Or, Iff, Xor, IteBool, IteField, Eq, Add, Mul, Neg, Bitsum}
use Rattle.ffc_term.specs.declared.node.Sort.{Sort}
use Rattle.ffc_term.specs.declared.node.Sort.TheVariants as sort

-- the node numbered id is n
abbrev pub IsNodeAt : List Node → ℕ → Node → Type 0
IsNodeAt nodes id n = slice_get nodes id ≡ Some n

-- the node numbered id, or `True` past the end
abbrev pub node_at : List Node → ℕ → Node
node_at nodes id = slice_index_or nodes id True

-- the numbers of a node's children, in order
abbrev pub children : Node → List ℕ
children True = []
children False = []
children (BoolConst k) = []
children (FieldConst k p) = []
children (Num n p) = []
children (Not a) = a ∷ []
children (And ids) = ids
children (Or ids) = ids
children (Iff a b) = a ∷ b ∷ []
children (Xor a b) = a ∷ b ∷ []
children (IteBool c a b) = c ∷ a ∷ b ∷ []
children (IteField c a b) = c ∷ a ∷ b ∷ []
children (Eq a b) = a ∷ b ∷ []
children (Add ids) = ids
children (Mul ids) = ids
children (Neg a) = a ∷ []
children (Bitsum ids) = ids

-- a declared constant, of either sort
abbrev pub is_constant : Node → Bool
is_constant (BoolConst k) = true
is_constant (FieldConst k p) = true
is_constant _ = false

-- the node numbered id is a constant
abbrev pub IsConstantAt : List Node → ℕ → Type 0
IsConstantAt nodes id = (n : Node) × IsNodeAt nodes id n × IsTrue (is_constant n)

module _ {X : Type 0} (tell : List X → Node → X) where
  -- what is stated of some nodes, and then of each further one in turn
  abbrev pub in_turn_from : List X → List Node → List X
  in_turn_from told [] = told
  in_turn_from told (n ∷ ns) = in_turn_from (told ++ tell told n ∷ []) ns

  -- what is stated of each node in turn, from what is stated of the nodes before it
  abbrev pub in_turn : List Node → List X
  in_turn ns = in_turn_from [] ns

-- the sort that is stated of a child
abbrev pub sort_in : List Sort → ℕ → Sort
sort_in sorts id = slice_index_or sorts id sort.Bool

-- A node's sort from those of its children: a field node other than a constant and a number is of the sort
-- of its field arguments.
abbrev pub sort_of_node : List Sort → Node → Sort
sort_of_node sorts True = sort.Bool
sort_of_node sorts False = sort.Bool
sort_of_node sorts (BoolConst k) = sort.Bool
sort_of_node sorts (FieldConst k p) = sort.Field p
sort_of_node sorts (Num n p) = sort.Field p
sort_of_node sorts (Not a) = sort.Bool
sort_of_node sorts (And ids) = sort.Bool
sort_of_node sorts (Or ids) = sort.Bool
sort_of_node sorts (Iff a b) = sort.Bool
sort_of_node sorts (Xor a b) = sort.Bool
sort_of_node sorts (IteBool c a b) = sort.Bool
sort_of_node sorts (IteField c a b) = sort_in sorts a
sort_of_node sorts (Eq a b) = sort.Bool
sort_of_node sorts (Add ids) = sort_in sorts (slice_index ids 0)
sort_of_node sorts (Mul ids) = sort_in sorts (slice_index ids 0)
sort_of_node sorts (Neg a) = sort_in sorts a
sort_of_node sorts (Bitsum ids) = sort_in sorts (slice_index ids 0)

-- the sort of each node, in order
unfoldable pub sorts : List Node → List Sort
sorts nodes = in_turn sort_of_node nodes

-- the sort of the node numbered id
abbrev pub sort_at : List Node → ℕ → Sort
sort_at nodes id = sort_in (sorts nodes) id

-- the order of a field sort, and 0 of the Boolean one
abbrev pub order_of_sort : Sort → ℕ
order_of_sort sort.Bool = 0
order_of_sort (sort.Field p) = p

-- the order of the field node numbered id
abbrev pub order_at : List Node → ℕ → ℕ
order_at nodes id = order_of_sort (sort_at nodes id)

-- a node whose value is a residue of the order of its sort
abbrev pub IsComputed : Node → Type 0
IsComputed (Add ids) = Unit {0}
IsComputed (Mul ids) = Unit {0}
IsComputed (Neg a) = Unit {0}
IsComputed (Bitsum ids) = Unit {0}
IsComputed _ = ⊥
