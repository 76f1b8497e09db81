-- The polynomial of a field node, over the order of its sort (Ozdemir, Kremer, Tinelli and Barrett, "Satisfiability Modulo
-- Finite Fields", 2023, section 4).
--
-- Numbers, sums, products, negations and sums of bits are expanded. A constant and an `ite` are variables, each numbered
-- by its node. Another node has the polynomial 0.
use Rattle.std.specs.Prelude.{◌≡◌, ℕ, ◌+◌, ◌-◌, ◌^◌, Bool, true, false, List, [], ◌∷◌, ◌++◌, length, slice_index_or}
use Rattle.ffc_ring.specs.Monomial.{Monomial}
use Rattle.ffc_ring.specs.Polynomial.{Terms, product, scaled}
use Rattle.ffc_term.specs.declared.node.Node.{Node}
use Rattle.ffc_term.specs.declared.node.Node.TheVariants.{FieldConst, Num, IteField, Add, Mul, Neg, Bitsum}
use Rattle.ffc_term.specs.Nodes.{in_turn, node_at, order_at}
use Rattle.ffc_term.specs.Tables.{IsFieldAt}
use Rattle.ffc_trees.specs.Normal.{normal}

-- the variable of this number
abbrev pub variable : ℕ → Terms
variable x = (1, (x, 1) ∷ []) ∷ []

-- the constant polynomial
abbrev pub constant : ℕ → Terms
constant c = (c, []) ∷ []

-- the polynomial in a list of them, and 0 past its end
abbrev pub poly_in : List Terms → ℕ → Terms
poly_in polys id = slice_index_or polys id []

-- the sum, the product, and the sum with the power of 2 of each one's place from the place i on
abbrev pub sum_of : List Terms → List ℕ → Terms
sum_of polys [] = []
sum_of polys (id ∷ ids) = poly_in polys id ++ sum_of polys ids

abbrev pub product_of : List Terms → List ℕ → Terms
product_of polys [] = constant 1
product_of polys (id ∷ ids) = product (poly_in polys id) (product_of polys ids)

abbrev pub bit_sum_of : ℕ → List Terms → List ℕ → Terms
bit_sum_of i polys [] = []
bit_sum_of i polys (id ∷ ids) = scaled (2 ^ i) (poly_in polys id) ++ bit_sum_of (i + 1) polys ids

-- A node's polynomial as it is written from those of the nodes before it. Its number is id, and p is its order.
abbrev pub expanded : ℕ → ℕ → List Terms → Node → Terms
expanded p id polys (FieldConst k q) = variable id
expanded p id polys (Num n q) = constant n
expanded p id polys (IteField c a b) = variable id
expanded p id polys (Add ids) = sum_of polys ids
expanded p id polys (Mul ids) = product_of polys ids
expanded p id polys (Neg a) = scaled (p - 1) (poly_in polys a)
expanded p id polys (Bitsum ids) = bit_sum_of 0 polys ids
expanded p id polys _ = []

abbrev pub poly_of_node : ℕ → ℕ → List Terms → Node → Terms
poly_of_node p id polys n = normal p (expanded p id polys n)

-- the polynomial of each node, in order
unfoldable pub node_polys : List Node → List Terms
node_polys nodes = in_turn (λ polys n. poly_of_node (order_at nodes (length polys)) (length polys) polys n) nodes

-- the polynomial of the node numbered id
abbrev pub poly_at : List Node → ℕ → Terms
poly_at nodes id = poly_in (node_polys nodes) id

-- what holds of each monomial of a list of terms
abbrev pub EachMonomial : (Monomial → Type 0) → Terms → Type 0
EachMonomial P [] = Unit {0}
EachMonomial P (t ∷ ts) = P t.1 × EachMonomial P ts

-- each variable of a monomial is one of these
abbrev pub HasVariables : (ℕ → Type 0) → Monomial → Type 0
HasVariables P [] = Unit {0}
HasVariables P (f ∷ m) = P f.0 × HasVariables P m

-- a node that is a variable: a constant or an `ite`, of the field of order p
abbrev pub is_variable : Node → Bool
is_variable (FieldConst k q) = true
is_variable (IteField c a b) = true
is_variable _ = false

abbrev pub IsVariableAt : List Node → ℕ → ℕ → Type 0
IsVariableAt nodes p x = IsFieldAt nodes p x × (is_variable (node_at nodes x) ≡ true)
