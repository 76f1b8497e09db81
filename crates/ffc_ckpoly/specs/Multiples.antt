-- Multiples of nodes: products of two nodes of which one is a number.
use Rattle.std.specs.Prelude.{ℕ, Bool, true, false, List, [], ◌∷◌, Option, Some, None, is_none, slice_get}
use Rattle.ffc_term.specs.declared.node.Node.{Node}
use Rattle.ffc_term.specs.declared.node.Node.TheVariants.{FieldConst, Num, IteField, Mul}
use Rattle.ffc_trees.specs.Parts.{parts_of}

-- a variable or a number
abbrev pub is_single : Node → Bool
is_single (FieldConst k p) = true
is_single (Num n p) = true
is_single (IteField c a b) = true
is_single _ = false

-- the number that a node is, if it is one
abbrev pub number_of : Node → Option ℕ
number_of (Num n p) = Some n
number_of _ = None

abbrev pub number_found : Option Node → Option ℕ
number_found None = None
number_found (Some n) = number_of n

abbrev pub number_at : List Node → ℕ → Option ℕ
number_at nodes id = number_found (slice_get nodes id)

abbrev pub this_or : {A : Type 0} → Option A → Option A → Option A
this_or None o = o
this_or (Some x) o = Some x

-- a number with a node, where there is a number
abbrev pub with_node : Option ℕ → ℕ → Option (ℕ × ℕ)
with_node None id = None
with_node (Some n) id = Some (n, id)

-- of two nodes, the first that is a number, with the other one
abbrev pub multiple_of_two : List Node → ℕ → ℕ → Option (ℕ × ℕ)
multiple_of_two nodes a b = this_or (with_node (number_at nodes a) b) (with_node (number_at nodes b) a)

-- the number and the node, where the product of these is a multiple of a node
abbrev pub multiple_of : List Node → List ℕ → Option (ℕ × ℕ)
multiple_of nodes (a ∷ b ∷ []) = multiple_of_two nodes a b
multiple_of nodes _ = None

-- a product that is no multiple
abbrev pub is_product : List Node → Node → Bool
is_product nodes (Mul ids) = is_none (multiple_of nodes ids)
is_product nodes _ = false

abbrev pub multiplied_or : Option (ℕ × ℕ) → List ℕ → List ℕ
multiplied_or None ids = ids
multiplied_or (Some x) ids = x.1 ∷ []

-- the nodes whose polynomials make that of a node: its parts, and for a multiple the node that is multiplied
abbrev pub operands : List Node → Node → List ℕ
operands nodes (Mul ids) = multiplied_or (multiple_of nodes ids) ids
operands nodes n = parts_of n
