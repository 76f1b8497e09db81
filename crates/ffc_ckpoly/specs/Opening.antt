-- Which polynomials have to be there so that a node's is made from them: for a product those of its factors, and for another
-- node those of its operands, where an operand that is no product may be opened in place of that.
use Rattle.std.specs.Prelude.{◌≡◌, ℕ, suc, ◌<◌, true, false, List, length, get_or, map, sum_by, All, Option, IsSome}
use Rattle.std.specs.Ordering.{nat_cmp}
use Rattle.std.specs.BTreeMap.{BTreeMap, get}
use Rattle.ffc_ring.specs.Polynomial.{Terms}
use Rattle.ffc_term.specs.declared.node.Node.{Node}
use Rattle.ffc_term.specs.Nodes.{IsNodeAt, in_turn}
use Rattle.ffc_term.specs.Tables.{IsFieldAt}
use Rattle.ffc_term.specs.Measuring.{number_in}
use Rattle.ffc_trees.specs.Parts.{parts_of}
use Rattle.ffc_ckpoly.specs.Multiples.{is_product, operands, this_or}

-- A node's polynomial need not be made by itself: it is there, or the node is no product and the same holds of its operands.
pub data CanOpen (nodes : List Node) (has : ℕ → Type 0) : ℕ → Type 0 where
  There : (id : ℕ) → has id → CanOpen nodes has id
  Opened : (id : ℕ) (n : Node) → IsNodeAt nodes id n → is_product nodes n ≡ false → ((k d : ℕ) → k < length (operands nodes n) → CanOpen nodes has (get_or (operands nodes n) k d)) → CanOpen nodes has id

-- no polynomial has to be there
abbrev pub OpensAlone : List Node → ℕ → Type 0
OpensAlone nodes id = CanOpen nodes (λ q. ⊥) id

-- A node's polynomial can be made: its factors are there, where it is a product, and else its operands can be opened.
pub record CanMake (nodes : List Node) (factor has : ℕ → Type 0) (id : ℕ) : Type 0 where
  pub factors : (n : Node) → IsNodeAt nodes id n → is_product nodes n ≡ true → All factor (operands nodes n)
  pub parts : (n : Node) → IsNodeAt nodes id n → is_product nodes n ≡ false → All (CanOpen nodes has) (operands nodes n)

-- the polynomial of a node, among those that are kept and those that were made besides
abbrev pub part_at : BTreeMap ℕ Terms → BTreeMap ℕ Terms → ℕ → Option Terms
part_at known made id = this_or (get nat_cmp known id) (get nat_cmp made id)

abbrev pub IsThere : BTreeMap ℕ Terms → BTreeMap ℕ Terms → ℕ → Type 0
IsThere known made id = IsSome (part_at known made id)

-- a field node whose polynomial need not be made by itself
pub record IsOpenable (nodes : List Node) (p : ℕ) (has : ℕ → Type 0) (id : ℕ) : Type 0 where
  pub field : IsFieldAt nodes p id
  pub opens : CanOpen nodes has id

-- the nodes that wait, each with its weight
abbrev pub waiting_ids : {F : Type 0} → List (F × ℕ) → List ℕ
waiting_ids xs = map (λ x. x.1) xs

-- how many nodes are reached from a node by way of parts, each as often as it is reached, with the node itself
abbrev pub size_of_node : List ℕ → Node → ℕ
size_of_node sizes n = suc (sum_by (number_in sizes) (parts_of n))

unfoldable pub sizes : List Node → List ℕ
sizes nodes = in_turn size_of_node nodes

abbrev pub size_at : List Node → ℕ → ℕ
size_at nodes id = number_in (sizes nodes) id
