-- What holds of sorts, degrees and lengths in every table: they follow from those of the children, and stay when nodes
-- come after. The field nodes among a node's children, and the two sides of an equality, are of one order.
use Rattle.std.specs.Prelude.{◌≡◌, ℕ, ◌<◌, List, [], ◌∷◌, ◌++◌, All, length}
use Rattle.ffc_field.specs.Orders.{IsOrder}
use Rattle.ffc_term.specs.declared.node.Node.{Node}
use Rattle.ffc_term.specs.declared.node.Node.TheVariants.{IteField, Eq, Add, Mul, Neg, Bitsum}
use Rattle.ffc_term.specs.Nodes.{IsNodeAt, sorts, sort_at, sort_of_node}
use Rattle.ffc_term.specs.Measuring.{degrees, lengths, degree_at, length_at, degree_of_node, length_of_node}
use Rattle.ffc_term.specs.Tables.{IsTable, IsFieldAt, CanCut}

pub record MeasuresFollowFromChildren : Type 0 where
  pub sort : (nodes : List Node) (id : ℕ) (n : Node) → IsTable nodes → IsNodeAt nodes id n → sort_at nodes id ≡ sort_of_node (sorts nodes) n
  pub degree : (nodes : List Node) (id : ℕ) (n : Node) → IsTable nodes → IsNodeAt nodes id n → degree_at nodes id ≡ degree_of_node (degrees nodes) n
  pub length : (nodes : List Node) (id : ℕ) (n : Node) → IsTable nodes → IsNodeAt nodes id n → length_at nodes id ≡ length_of_node (lengths nodes) n

pub record MeasuresStay : Type 0 where
  pub sort : (nodes more : List Node) (id : ℕ) → id < length nodes → sort_at (nodes ++ more) id ≡ sort_at nodes id
  pub degree : (nodes more : List Node) (id : ℕ) → id < length nodes → degree_at (nodes ++ more) id ≡ degree_at nodes id
  pub length : (nodes more : List Node) (id : ℕ) → id < length nodes → length_at (nodes ++ more) id ≡ length_at nodes id

-- the children of these nodes that are of a field
abbrev pub field_children : Node → List ℕ
field_children (IteField c a b) = a ∷ b ∷ []
field_children (Eq a b) = a ∷ b ∷ []
field_children (Add ids) = ids
field_children (Mul ids) = ids
field_children (Neg a) = a ∷ []
field_children (Bitsum ids) = ids
field_children _ = []

-- The field children of a node are of one order, which is one of the eight, and that of the node unless it is an `Eq`.
pub record FieldChildrenAreOfOneOrder : Type 0 where
  pub sides : (nodes : List Node) (id a b : ℕ) → IsTable nodes → IsNodeAt nodes id (Eq a b) → (p : ℕ) × IsOrder p × IsFieldAt nodes p a × IsFieldAt nodes p b
  pub parts : (nodes : List Node) (id p : ℕ) (n : Node) → IsTable nodes → IsNodeAt nodes id n → IsFieldAt nodes p id → IsOrder p × All (IsFieldAt nodes p) (field_children n)

-- What was added after a table may be dropped.
abbrev pub GrownTablesCanBeCut : Type 0
GrownTablesCanBeCut = (nodes more : List Node) → IsTable nodes → CanCut (nodes ++ more) (length nodes)
