-- Which polynomials have to be known so that a node's is made from them: for a product those of its factors, and for another
-- node those of its parts, where a part that is no product may be opened in place of that. Those of single terms are made in
-- place.
use Rattle.std.specs.Prelude.{◌≡◌, ℕ, suc, ◌<◌, ◌⊎◌, Bool, true, false, List, length, get_or, sum_by, All, IsSome}
use Rattle.std.specs.Ordering.{nat_cmp}
use Rattle.std.specs.BTreeMap.{BTreeMap, get}
use Rattle.ffc_ring.specs.Polynomial.{Terms}
use Rattle.ffc_term.specs.declared.node.Node.{Node}
use Rattle.ffc_term.specs.declared.node.Node.TheVariants.{FieldConst, Num, IteField, Mul}
use Rattle.ffc_term.specs.Nodes.{IsNodeAt, in_turn}
use Rattle.ffc_term.specs.Tables.{IsFieldAt}
use Rattle.ffc_term.specs.Measuring.{number_in}
use Rattle.ffc_trees.specs.Parts.{parts_of}

abbrev pub is_product : Node → Bool
is_product (Mul ids) = true
is_product _ = false

-- a variable or a number
abbrev pub is_leaf : Node → Bool
is_leaf (FieldConst k p) = true
is_leaf (Num n p) = true
is_leaf (IteField c a b) = true
is_leaf _ = false

pub record IsLeafAt (nodes : List Node) (id : ℕ) : Type 0 where
  pub node : Node
  pub at : IsNodeAt nodes id node
  pub leaf : is_leaf node ≡ true

-- a node that is neither a product nor a single term
pub record IsSumAt (nodes : List Node) (id : ℕ) : Type 0 where
  pub node : Node
  pub at : IsNodeAt nodes id node
  pub plain : is_product node ≡ false
  pub no_leaf : is_leaf node ≡ false

-- the polynomial of a node is known, or made in place
abbrev pub IsReady : List Node → BTreeMap ℕ Terms → ℕ → Type 0
IsReady nodes known id = IsSome (get nat_cmp known id) ⊎ IsLeafAt nodes id

-- A node's polynomial need not be made by itself: it is there, or the node is no product and the same holds of its parts.
pub data CanOpen (nodes : List Node) (has : ℕ → Type 0) : ℕ → Type 0 where
  There : (id : ℕ) → has id → CanOpen nodes has id
  Opened : (id : ℕ) (n : Node) → IsNodeAt nodes id n → is_product n ≡ false → ((k d : ℕ) → k < length (parts_of n) → CanOpen nodes has (get_or (parts_of n) k d)) → CanOpen nodes has id

-- A node's polynomial can be made: its factors are there, where it is a product, and else its parts can be opened.
pub record CanMake (nodes : List Node) (factor has : ℕ → Type 0) (id : ℕ) : Type 0 where
  pub factors : (ids : List ℕ) → IsNodeAt nodes id (Mul ids) → All factor ids
  pub parts : (n : Node) → IsNodeAt nodes id n → is_product n ≡ false → All (CanOpen nodes has) (parts_of n)

-- a field node whose polynomial need not be made by itself
pub record IsOpenable (nodes : List Node) (p : ℕ) (has : ℕ → Type 0) (id : ℕ) : Type 0 where
  pub field : IsFieldAt nodes p id
  pub opens : CanOpen nodes has id

-- how many nodes are reached from a node by way of parts, each as often as it is reached, with the node itself
abbrev pub size_of_node : List ℕ → Node → ℕ
size_of_node sizes n = suc (sum_by (number_in sizes) (parts_of n))

unfoldable pub sizes : List Node → List ℕ
sizes nodes = in_turn size_of_node nodes

abbrev pub size_at : List Node → ℕ → ℕ
size_at nodes id = number_in (sizes nodes) id
