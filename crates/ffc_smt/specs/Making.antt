-- The nodes that terms make, in the order in which they are interned, each once: arguments first, from the left.
use Rattle.std.specs.Prelude.{ℕ, ◌==◌, ◌&&◌, Bool, true, false, List, [], ◌∷◌, ◌++◌, length, zip, Option, Some, None, position}
use Rattle.ffc_term.specs.declared.node.Node.{Node}
use Rattle.ffc_term.specs.declared.node.Node.TheVariants as node
use Rattle.ffc_term.specs.declared.node.Sort.{Sort}
use Rattle.ffc_term.specs.declared.node.Sort.TheVariants as sort
use Rattle.ffc_term.specs.Nodes.{sort_at}
use Rattle.ffc_smt.specs.Terms.{Operator, Not, And, Or, Xor, Implies, Equal, Distinct, Ite, Add, Mul, Neg, Bitsum, Term, Truth, Number, Constant, Variable, Defined, Applied, Let, Called, Terms, NoTerm, AndTerm}
use Rattle.ffc_smt.specs.Meaning.{Env, found, residue_of_number}

-- the nodes so far, and the number of the one that was asked for
pub record Made : Type 0 where
  pub nodes : List Node
  pub id : ℕ

-- several ones
pub record AllMade : Type 0 where
  pub nodes : List Node
  pub ids : List ℕ

abbrev pub with_id : ℕ → AllMade → AllMade
with_id id m = record { nodes = m.nodes; ids = id ∷ m.ids }

abbrev pub placed : List Node → Node → Option ℕ → Made
placed nodes n (Some id) = record { nodes = nodes; id = id }
placed nodes n None = record { nodes = nodes ++ n ∷ []; id = length nodes }

-- the same numbers in the same order
abbrev pub are_same_ids : List ℕ → List ℕ → Bool
are_same_ids [] [] = true
are_same_ids (a ∷ xs) (b ∷ ys) = (a == b) && are_same_ids xs ys
are_same_ids _ _ = false

-- two nodes of one kind with the same parts
abbrev pub is_same_node : Node → Node → Bool
is_same_node node.True node.True = true
is_same_node node.False node.False = true
is_same_node (node.BoolConst k) (node.BoolConst l) = k == l
is_same_node (node.FieldConst k p) (node.FieldConst l q) = (k == l) && (p == q)
is_same_node (node.Num n p) (node.Num m q) = (n == m) && (p == q)
is_same_node (node.Not a) (node.Not b) = a == b
is_same_node (node.And xs) (node.And ys) = are_same_ids xs ys
is_same_node (node.Or xs) (node.Or ys) = are_same_ids xs ys
is_same_node (node.Iff a b) (node.Iff c d) = (a == c) && (b == d)
is_same_node (node.Xor a b) (node.Xor c d) = (a == c) && (b == d)
is_same_node (node.IteBool c a b) (node.IteBool f d e) = (c == f) && ((a == d) && (b == e))
is_same_node (node.IteField c a b) (node.IteField f d e) = (c == f) && ((a == d) && (b == e))
is_same_node (node.Eq a b) (node.Eq c d) = (a == c) && (b == d)
is_same_node (node.Add xs) (node.Add ys) = are_same_ids xs ys
is_same_node (node.Mul xs) (node.Mul ys) = are_same_ids xs ys
is_same_node (node.Neg a) (node.Neg b) = a == b
is_same_node (node.Bitsum xs) (node.Bitsum ys) = are_same_ids xs ys
is_same_node _ _ = false

-- the node n, where it is among the others that one, else after them
unfoldable pub interned : List Node → Node → Made
interned nodes n = placed nodes n (position (is_same_node n) nodes)

-- a node that fits into no table, where there is nothing to make: a term that is read makes none
abbrev pub placeholder : List Node → Made
placeholder nodes = interned nodes (node.And [])

abbrev pub constant_node : ℕ → Sort → Node
constant_node k sort.Bool = node.BoolConst k
constant_node k (sort.Field p) = node.FieldConst k p

-- the equality of two nodes, by the sort of the first
abbrev pub equality_of : Sort → ℕ → ℕ → Node
equality_of sort.Bool a b = node.Iff a b
equality_of (sort.Field p) a b = node.Eq a b

unfoldable pub equality : List Node → ℕ → ℕ → Made
equality nodes a b = interned nodes (equality_of (sort_at nodes a) a b)

-- of each with the next, from the left
unfoldable pub neighbours : List Node → ℕ → List ℕ → AllMade
neighbours nodes a [] = record { nodes = nodes; ids = [] }
neighbours nodes a (b ∷ rest) = let e = equality nodes a b in with_id e.id (neighbours e.nodes b rest)

-- the equality and then its `Not`
unfoldable pub difference : List Node → ℕ → ℕ → Made
difference nodes a b = let e = equality nodes a b in interned e.nodes (node.Not e.id)

-- of a with each
unfoldable pub differences_from : List Node → ℕ → List ℕ → AllMade
differences_from nodes a [] = record { nodes = nodes; ids = [] }
differences_from nodes a (b ∷ rest) = let d = difference nodes a b in with_id d.id (differences_from d.nodes a rest)

-- of each pair, ordered by the first and then the second
unfoldable pub differences : List Node → List ℕ → AllMade
differences nodes [] = record { nodes = nodes; ids = [] }
differences nodes (a ∷ rest) =
    let first = differences_from nodes a rest in
    let others = differences first.nodes rest in
    record { nodes = others.nodes; ids = first.ids ++ others.ids }

unfoldable pub exclusive : List Node → ℕ → List ℕ → Made
exclusive nodes a [] = record { nodes = nodes; id = a }
exclusive nodes a (b ∷ rest) = let x = interned nodes (node.Xor a b) in exclusive x.nodes x.id rest

-- `Not(a)`, and then `Or(Not(a), b)`
unfoldable pub implication : List Node → ℕ → ℕ → Made
implication nodes a b = let n = interned nodes (node.Not a) in interned n.nodes (node.Or (n.id ∷ b ∷ []))

-- the last two first, and each one to the left with that result
unfoldable pub implications : List Node → ℕ → List ℕ → Made
implications nodes a [] = record { nodes = nodes; id = a }
implications nodes a (b ∷ rest) = let last = implications nodes b rest in implication last.nodes a last.id

-- an `ite` of field sort is followed by its equalities with its branches
abbrev pub choice : Sort → List Node → ℕ → ℕ → ℕ → Made
choice sort.Bool nodes c a b = interned nodes (node.IteBool c a b)
choice (sort.Field p) nodes c a b =
    let t = interned nodes (node.IteField c a b) in
    let first = interned t.nodes (node.Eq t.id a) in
    let second = interned first.nodes (node.Eq t.id b) in
    record { nodes = second.nodes; id = t.id }

abbrev pub conjoined : AllMade → Made
conjoined m = interned m.nodes (node.And m.ids)

-- what a function makes of the nodes of its arguments
unfoldable pub applied_made : Operator → List Node → List ℕ → Made
applied_made Not nodes (a ∷ []) = interned nodes (node.Not a)
applied_made And nodes (a ∷ ids) = interned nodes (node.And (a ∷ ids))
applied_made Or nodes (a ∷ ids) = interned nodes (node.Or (a ∷ ids))
applied_made Xor nodes (a ∷ b ∷ rest) = exclusive nodes a (b ∷ rest)
applied_made Implies nodes (a ∷ b ∷ rest) = implications nodes a (b ∷ rest)
applied_made Equal nodes (a ∷ b ∷ []) = equality nodes a b
applied_made Equal nodes (a ∷ b ∷ c ∷ rest) = conjoined (neighbours nodes a (b ∷ c ∷ rest))
applied_made Distinct nodes (a ∷ b ∷ []) = difference nodes a b
applied_made Distinct nodes (a ∷ b ∷ c ∷ rest) = conjoined (differences nodes (a ∷ b ∷ c ∷ rest))
applied_made Ite nodes (c ∷ a ∷ b ∷ []) = choice (sort_at nodes a) nodes c a b
applied_made Add nodes (a ∷ ids) = interned nodes (node.Add (a ∷ ids))
applied_made Mul nodes (a ∷ ids) = interned nodes (node.Mul (a ∷ ids))
applied_made Neg nodes (a ∷ []) = interned nodes (node.Neg a)
applied_made Bitsum nodes (a ∷ ids) = interned nodes (node.Bitsum (a ∷ ids))
applied_made _ nodes _ = placeholder nodes

abbrev pub variable_made : List Node → Option ℕ → Made
variable_made nodes (Some id) = record { nodes = nodes; id = id }
variable_made nodes None = placeholder nodes

abbrev pub truth_node : Bool → Node
truth_node true = node.True
truth_node false = node.False

unfoldable mutual
  -- the node of a term, where variables have these nodes
  pub made : Env ℕ → List Node → Term → Made
  made env nodes (Truth b) = interned nodes (truth_node b)
  made env nodes (Number negative size p) = interned nodes (node.Num (residue_of_number negative size p) p)
  made env nodes (Constant k s) = interned nodes (constant_node k s)
  made env nodes (Variable name) = variable_made nodes (found env name)
  made env nodes (Defined t) = made [] nodes t
  made env nodes (Applied op ts) = let m = all_made env nodes ts in applied_made op m.nodes m.ids
  made env nodes (Let names ts t) = let m = all_made env nodes ts in made (zip names m.ids ++ env) m.nodes t
  made env nodes (Called names t ts) = let m = all_made env nodes ts in made (zip names m.ids) m.nodes t

  pub all_made : Env ℕ → List Node → Terms → AllMade
  all_made env nodes NoTerm = record { nodes = nodes; ids = [] }
  all_made env nodes (AndTerm t ts) = let m = made env nodes t in with_id m.id (all_made env m.nodes ts)
