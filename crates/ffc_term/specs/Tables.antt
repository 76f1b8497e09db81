-- Which lists of nodes are tables: each node fits those before it, equal nodes are one, and after each `ite` of
-- field sort come the equalities of the `ite` with its branches.
use Rattle.std.specs.Prelude.{◌≡◌, ℕ, ◌+◌, ◌<◌, ◌≤◌, ◌⊎◌, ◌==◌, if◌then◌else◌, List, [], ◌∷◌, ◌++◌, length, take, All, Contains, count_by}
use Rattle.ffc_field.specs.Orders.{IsOrder}
use Rattle.ffc_term.specs.declared.node.Node.{Node}
use Rattle.ffc_term.specs.declared.node.Node.TheVariants.{True, False, BoolConst, FieldConst, Num, Not, And, Or, Iff, Xor, IteBool, IteField, Eq, Add, Mul, Neg, Bitsum}
use Rattle.ffc_term.specs.declared.node.Sort.TheVariants as sort
use Rattle.ffc_term.specs.Nodes.{IsNodeAt, sort_at, is_constant}

-- how many nodes a table may have
abbrev pub most_nodes : ℕ
most_nodes = 1048576

-- id numbers a Boolean node
abbrev pub IsBooleanAt : List Node → ℕ → Type 0
IsBooleanAt nodes id = (id < length nodes) × (sort_at nodes id ≡ sort.Bool)

-- id numbers a node of the field of order p
abbrev pub IsFieldAt : List Node → ℕ → ℕ → Type 0
IsFieldAt nodes p id = (id < length nodes) × (sort_at nodes id ≡ sort.Field p)

-- the listed nodes are Boolean, and there is at least one
pub record AreBoolean (nodes : List Node) (ids : List ℕ) : Type 0 where
  pub some : 0 < length ids
  pub each : All (IsBooleanAt nodes) ids

-- the listed nodes are of one field, and there is at least one
pub record AreOfOneField (nodes : List Node) (ids : List ℕ) : Type 0 where
  pub some : 0 < length ids
  pub order : ℕ
  pub each : All (IsFieldAt nodes order) ids

-- A node may come after these: its children are among them, lists of children are not empty, and its sorts and
-- orders fit.
abbrev pub Fits : List Node → Node → Type 0
Fits nodes True = Unit {0}
Fits nodes False = Unit {0}
Fits nodes (BoolConst k) = Unit {0}
Fits nodes (FieldConst k p) = IsOrder p
Fits nodes (Num n p) = IsOrder p × (n < p)
Fits nodes (Not a) = IsBooleanAt nodes a
Fits nodes (And ids) = AreBoolean nodes ids
Fits nodes (Or ids) = AreBoolean nodes ids
Fits nodes (Iff a b) = IsBooleanAt nodes a × IsBooleanAt nodes b
Fits nodes (Xor a b) = IsBooleanAt nodes a × IsBooleanAt nodes b
Fits nodes (IteBool c a b) = IsBooleanAt nodes c × IsBooleanAt nodes a × IsBooleanAt nodes b
Fits nodes (IteField c a b) = IsBooleanAt nodes c × AreOfOneField nodes (a ∷ b ∷ [])
Fits nodes (Eq a b) = AreOfOneField nodes (a ∷ b ∷ [])
Fits nodes (Add ids) = AreOfOneField nodes ids
Fits nodes (Mul ids) = AreOfOneField nodes ids
Fits nodes (Neg a) = AreOfOneField nodes (a ∷ [])
Fits nodes (Bitsum ids) = AreOfOneField nodes ids

-- how many constants a table has
abbrev pub constant_count : List Node → ℕ
constant_count nodes = count_by is_constant nodes

-- a constant that comes after these nodes is numbered by the count of the constants among them
abbrev pub IsNumbered : List Node → Node → Type 0
IsNumbered nodes (BoolConst k) = k ≡ constant_count nodes
IsNumbered nodes (FieldConst k p) = k ≡ constant_count nodes
IsNumbered nodes _ = Unit {0}

-- an `ite` of field sort
abbrev pub IsFieldIte : Node → Type 0
IsFieldIte (IteField c a b) = Unit {0}
IsFieldIte _ = ⊥

-- the number of the equality of the `ite` t with its second branch; where both branches are one node, so are the equalities
abbrev pub second_equality : ℕ → ℕ → ℕ → ℕ
second_equality t a b = if a == b then t + 1 else t + 2

-- after each `ite` of field sort come its equalities with its branches
abbrev pub HasEqualities : List Node → Type 0
HasEqualities nodes = (t c a b : ℕ) → IsNodeAt nodes t (IteField c a b) → IsNodeAt nodes (t + 1) (Eq t a) × IsNodeAt nodes (second_equality t a b) (Eq t b)

-- Each node fits those before it, and no node occurs twice.
pub record IsWellFormed (nodes : List Node) : Type 0 where
  pub fits : (id : ℕ) (n : Node) → IsNodeAt nodes id n → Fits (take id nodes) n
  pub numbered : (id : ℕ) (n : Node) → IsNodeAt nodes id n → IsNumbered (take id nodes) n
  pub single : (id other : ℕ) (n : Node) → IsNodeAt nodes id n → IsNodeAt nodes other n → id ≡ other
  pub within : length nodes ≤ most_nodes

-- a table
pub record IsTable (nodes : List Node) : Type 0 where
  pub well_formed : IsWellFormed nodes
  pub equalities : HasEqualities nodes

-- The node n was asked for, and id is its number: the table is as it was where it had the node, and else the node was
-- put after the others.
pub record IsInterned (old new : List Node) (n : Node) (id : ℕ) : Type 0 where
  pub at : IsNodeAt new id n
  pub added : (Contains old n × (new ≡ old)) ⊎ (¬ (Contains old n) × (new ≡ old ++ n ∷ []) × (id ≡ length old))

-- nodes that may be dropped: no `ite` of field sort before the number len has an equality from there on
abbrev pub CanCut : List Node → ℕ → Type 0
CanCut nodes len = (t c a b : ℕ) → IsNodeAt nodes t (IteField c a b) → t < len → second_equality t a b < len

-- the nodes that an `ite` of field sort adds, where its number is t
abbrev pub ite_nodes : ℕ → ℕ → ℕ → ℕ → List Node
ite_nodes t c a b = IteField c a b ∷ Eq t a ∷ (if a == b then [] else Eq t b ∷ [])

-- The same for an `ite` of field sort and its equalities: either all were there, or all were put after the others.
pub record IsIteInterned (old new : List Node) (c a b id : ℕ) : Type 0 where
  pub at : IsNodeAt new id (IteField c a b)
  pub added : (Contains old (IteField c a b) × (new ≡ old)) ⊎ (¬ (Contains old (IteField c a b)) × (new ≡ old ++ ite_nodes id c a b) × (id ≡ length old))
