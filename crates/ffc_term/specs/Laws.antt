-- What holds of every table: values have the sorts of their nodes, stay when nodes come after, follow from the values of
-- the children, and depend on the constants among a check's nodes alone.
use Rattle.std.specs.Prelude.{◌≡◌, ℕ, ◌<◌, List, ◌++◌, Contains, length}
use Rattle.ffc_term.specs.declared.node.Node.{Node}
use Rattle.ffc_term.specs.declared.node.Sort.{Sort}
use Rattle.ffc_term.specs.declared.node.Sort.TheVariants as sort
use Rattle.ffc_term.specs.declared.value.Value.{Value}
use Rattle.ffc_term.specs.declared.value.Value.TheVariants as value
use Rattle.ffc_term.specs.Nodes.{IsNodeAt, sort_at, order_at}
use Rattle.ffc_term.specs.Values.{values, value_at, value_of_node}
use Rattle.ffc_term.specs.Tables.{IsTable}
use Rattle.ffc_term.specs.Checks.{IsNodeOf, AreNodesOf, AreConstantsOf}
use Rattle.ffc_term.specs.Measuring.{AreMeasuresOf}

-- a value of a sort: a truth value, or a residue below the order
abbrev pub IsOfSort : Sort → Value → Type 0
IsOfSort sort.Bool (value.Bool b) = Unit {0}
IsOfSort sort.Bool (value.Field n) = ⊥
IsOfSort (sort.Field p) (value.Bool b) = ⊥
IsOfSort (sort.Field p) (value.Field n) = n < p

-- two assignments give these nodes the same values
abbrev pub AgreeAt : List Node → List Value → List Value → List ℕ → Type 0
AgreeAt nodes one two ids = (id : ℕ) → Contains ids id → value_at nodes one id ≡ value_at nodes two id

-- the value of each node is of the node's sort, under every assignment
abbrev pub ValuesAreOfSort : Type 0
ValuesAreOfSort = (nodes : List Node) (assignment : List Value) (id : ℕ) → IsTable nodes → id < length nodes → IsOfSort (sort_at nodes id) (value_at nodes assignment id)

-- the value of a node is that of its variant, in its order, from the values of its children
abbrev pub ValuesFollowFromChildren : Type 0
ValuesFollowFromChildren = (nodes : List Node) (assignment : List Value) (id : ℕ) (n : Node) → IsTable nodes → IsNodeAt nodes id n → value_at nodes assignment id ≡ value_of_node (order_at nodes id) assignment (values nodes assignment) n

-- further nodes change no value
abbrev pub ValuesStay : Type 0
ValuesStay = (nodes more : List Node) (assignment : List Value) (id : ℕ) → id < length nodes → value_at (nodes ++ more) assignment id ≡ value_at nodes assignment id

-- two assignments that agree on the constants among a check's nodes agree on all its nodes
abbrev pub ConstantsDecide : Type 0
ConstantsDecide = (nodes : List Node) (ids constants : List ℕ) (one two : List Value) → IsTable nodes → AreConstantsOf nodes ids constants → AgreeAt nodes one two constants → (id : ℕ) → IsNodeOf nodes ids id → value_at nodes one id ≡ value_at nodes two id

-- a check has one increasing list of nodes, and one of constants
abbrev pub NodesAreOneList : Type 0
NodesAreOneList = (nodes : List Node) (ids among other : List ℕ) → AreNodesOf nodes ids among → AreNodesOf nodes ids other → among ≡ other

-- a check has one span and one work
abbrev pub MeasuresAreOne : Type 0
MeasuresAreOne = (nodes : List Node) (ids : List ℕ) (span work other more : ℕ) → AreMeasuresOf nodes ids span work → AreMeasuresOf nodes ids other more → (span ≡ other) × (work ≡ more)
