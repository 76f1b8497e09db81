-- Measures of a check and of its nodes: how many assignments of its constants there are, and the degree and the number of
-- terms that the polynomial of a field node has at most.
use Rattle.std.specs.Prelude.{◌≡◌, ℕ, ◌*◌, ◌^◌, min, max, List, length, fold, sum_by, slice_index_or}
use Rattle.ffc_term.specs.declared.node.Node.{Node}
use Rattle.ffc_term.specs.declared.node.Node.TheVariants.{True, False, BoolConst, FieldConst, Num, Not, And, Or, Iff, Xor, IteBool, IteField, Eq, Add, Mul, Neg, Bitsum}
use Rattle.ffc_term.specs.Nodes.{node_at, in_turn}
use Rattle.ffc_term.specs.Values.{product_by}
use Rattle.ffc_term.specs.Checks.{AreNodesOf}

-- how many values a constant can have; 1 for a node that is none
abbrev pub value_count : Node → ℕ
value_count (BoolConst k) = 2
value_count (FieldConst k p) = p
value_count _ = 1

-- how many assignments of the constants among these nodes there are
abbrev pub span_of : List Node → List ℕ → ℕ
span_of nodes among = product_by (λ id. value_count (node_at nodes id)) among

-- The check over ids has this span, the number of assignments of its constants, and this work, the span times the number
-- of its nodes; each is given as 2^64 where it is greater.
pub record AreMeasuresOf (nodes : List Node) (ids : List ℕ) (span work : ℕ) : Type 0 where
  pub among : List ℕ
  pub all : AreNodesOf nodes ids among
  pub span_is : span ≡ min (span_of nodes among) (2 ^ 64)
  pub work_is : work ≡ min (span_of nodes among * length among) (2 ^ 64)

-- the number that is stated of a child
abbrev pub number_in : List ℕ → ℕ → ℕ
number_in numbers id = slice_index_or numbers id 0

-- the greatest of what f says of the elements, and 0 where there is none
abbrev pub greatest_by : {X : Type 0} → (X → ℕ) → List X → ℕ
greatest_by f xs = fold (λ a x. max a (f x)) 0 xs

-- The degree that the polynomial of a field node has at most, from those of its children; of an equality, the greater of
-- its sides'. It is 0 for other Boolean nodes.
abbrev pub degree_of_node : List ℕ → Node → ℕ
degree_of_node degrees True = 0
degree_of_node degrees False = 0
degree_of_node degrees (BoolConst k) = 0
degree_of_node degrees (FieldConst k p) = 1
degree_of_node degrees (Num n p) = 0
degree_of_node degrees (Not a) = 0
degree_of_node degrees (And ids) = 0
degree_of_node degrees (Or ids) = 0
degree_of_node degrees (Iff a b) = 0
degree_of_node degrees (Xor a b) = 0
degree_of_node degrees (IteBool c a b) = 0
degree_of_node degrees (IteField c a b) = 1
degree_of_node degrees (Eq a b) = max (number_in degrees a) (number_in degrees b)
degree_of_node degrees (Add ids) = greatest_by (number_in degrees) ids
degree_of_node degrees (Mul ids) = sum_by (number_in degrees) ids
degree_of_node degrees (Neg a) = number_in degrees a
degree_of_node degrees (Bitsum ids) = greatest_by (number_in degrees) ids

-- How many terms the polynomial of a field node has at most, from the numbers of its children; of an equality, the
-- greater of its sides'. It is 0 for other Boolean nodes.
abbrev pub length_of_node : List ℕ → Node → ℕ
length_of_node lengths True = 0
length_of_node lengths False = 0
length_of_node lengths (BoolConst k) = 0
length_of_node lengths (FieldConst k p) = 1
length_of_node lengths (Num n p) = 1
length_of_node lengths (Not a) = 0
length_of_node lengths (And ids) = 0
length_of_node lengths (Or ids) = 0
length_of_node lengths (Iff a b) = 0
length_of_node lengths (Xor a b) = 0
length_of_node lengths (IteBool c a b) = 0
length_of_node lengths (IteField c a b) = 1
length_of_node lengths (Eq a b) = max (number_in lengths a) (number_in lengths b)
length_of_node lengths (Add ids) = sum_by (number_in lengths) ids
length_of_node lengths (Mul ids) = product_by (number_in lengths) ids
length_of_node lengths (Neg a) = number_in lengths a
length_of_node lengths (Bitsum ids) = sum_by (number_in lengths) ids

unfoldable pub degrees : List Node → List ℕ
degrees nodes = in_turn degree_of_node nodes

unfoldable pub lengths : List Node → List ℕ
lengths nodes = in_turn length_of_node nodes

-- the degree of the node numbered id
abbrev pub degree_at : List Node → ℕ → ℕ
degree_at nodes id = number_in (degrees nodes) id

-- the length of the node numbered id
abbrev pub length_at : List Node → ℕ → ℕ
length_at nodes id = number_in (lengths nodes) id

-- up to which number degrees and lengths are kept exactly
abbrev pub measure_cap : ℕ
measure_cap = 2 ^ 32
