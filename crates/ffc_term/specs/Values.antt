-- The value of a node under an assignment (SMT-LIB 2.6, section 5.3, and its theories of the Booleans and of
-- finite fields of prime order).
--
-- A field node has a residue, and its operations are those on integers modulo the order of its sort.
use Rattle.std.specs.Prelude.{◌≡◌, Some, Contains, slice_get, ℕ, ◌+◌, ◌*◌, ◌%◌, ◌^◌, Bool, true, false, not, ◌==◌, nat_lt, if◌then◌else◌, List, [], ◌∷◌, slice_index_or, length, fold, sum_by}
use Rattle.std.specs.List.{list_any, list_all}
use Rattle.ffc_field.specs.Modular.{neg_mod}
use Rattle.ffc_term.specs.declared.node.Node.{Node}
use Rattle.ffc_term.specs.declared.node.Node.TheVariants.{True, False, BoolConst, FieldConst, Num, Not, And, Or, Iff, Xor, IteBool, IteField, Eq, Add, Mul, Neg, Bitsum}
use Rattle.ffc_term.specs.declared.value.Value.{Value}
use Rattle.ffc_term.specs.declared.value.Value.TheVariants as value
use Rattle.ffc_term.specs.Nodes.{in_turn, order_at}

-- the truth of a value, and false of a residue
abbrev pub truth : Value → Bool
truth (value.Bool b) = b
truth (value.Field n) = false

-- the residue of a value, and 0 of a truth value
abbrev pub residue : Value → ℕ
residue (value.Bool b) = 0
residue (value.Field n) = n

-- the value in a list of values, and false past its end
abbrev pub value_in : List Value → ℕ → Value
value_in values id = slice_index_or values id (value.Bool false)

abbrev pub truth_in : List Value → ℕ → Bool
truth_in values id = truth (value_in values id)

abbrev pub residue_in : List Value → ℕ → ℕ
residue_in values id = residue (value_in values id)

-- The value of the field constant k of order p: its entry in the assignment, and 0 where there is none below p.
abbrev pub constant_residue : List Value → ℕ → ℕ → ℕ
constant_residue assignment k p = if nat_lt (residue_in assignment k) p then residue_in assignment k else 0

-- two truth values are one
abbrev pub is_same_truth : Bool → Bool → Bool
is_same_truth true b = b
is_same_truth false b = not b

-- the product of what f says of each element
abbrev pub product_by : {X : Type 0} → (X → ℕ) → List X → ℕ
product_by f xs = fold (λ a x. a * f x) 1 xs

-- the sum of the elements' numbers, each times the power of 2 of its place, from the place i on
abbrev pub bit_sum_from : {X : Type 0} → ℕ → (X → ℕ) → List X → ℕ
bit_sum_from i f [] = 0
bit_sum_from i f (x ∷ xs) = 2 ^ i * f x + bit_sum_from (i + 1) f xs

-- A node's value from those of the nodes before it, under an assignment. Of a field node p is the order.
abbrev pub value_of_node : ℕ → List Value → List Value → Node → Value
value_of_node p assignment values True = value.Bool true
value_of_node p assignment values False = value.Bool false
value_of_node p assignment values (BoolConst k) = value.Bool (truth_in assignment k)
value_of_node p assignment values (FieldConst k q) = value.Field (constant_residue assignment k q)
value_of_node p assignment values (Num n q) = value.Field n
value_of_node p assignment values (Not a) = value.Bool (not (truth_in values a))
value_of_node p assignment values (And ids) = value.Bool (list_all (truth_in values) ids)
value_of_node p assignment values (Or ids) = value.Bool (list_any (truth_in values) ids)
value_of_node p assignment values (Iff a b) = value.Bool (is_same_truth (truth_in values a) (truth_in values b))
value_of_node p assignment values (Xor a b) = value.Bool (not (is_same_truth (truth_in values a) (truth_in values b)))
value_of_node p assignment values (IteBool c a b) = value.Bool (if truth_in values c then truth_in values a else truth_in values b)
value_of_node p assignment values (IteField c a b) = value.Field (if truth_in values c then residue_in values a else residue_in values b)
value_of_node p assignment values (Eq a b) = value.Bool (residue_in values a == residue_in values b)
value_of_node p assignment values (Add ids) = value.Field (sum_by (residue_in values) ids % p)
value_of_node p assignment values (Mul ids) = value.Field (product_by (residue_in values) ids % p)
value_of_node p assignment values (Neg a) = value.Field (neg_mod p (residue_in values a))
value_of_node p assignment values (Bitsum ids) = value.Field (bit_sum_from 0 (residue_in values) ids % p)

-- the value of each node under an assignment, in order
unfoldable pub values : List Node → List Value → List Value
values nodes assignment = in_turn (λ told n. value_of_node (order_at nodes (length told)) assignment told n) nodes

-- the value of the node numbered id under an assignment
abbrev pub value_at : List Node → List Value → ℕ → Value
value_at nodes assignment id = value_in (values nodes assignment) id

-- the listed places hold the values of their nodes, and the others are as before
pub record HoldsValues (nodes : List Node) (assignment : List Value) (listed : List ℕ) (old new : List Value) : Type 0 where
  pub long : length new ≡ length old
  pub written : (id : ℕ) → Contains listed id → slice_get new id ≡ Some (value_at nodes assignment id)
  pub kept : (id : ℕ) → ¬ (Contains listed id) → slice_get new id ≡ slice_get old id
