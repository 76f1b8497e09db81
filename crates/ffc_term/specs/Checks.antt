-- The nodes of a check: those that are listed, as its assertions, their children, the children of these and so on, and
-- of each `ite` of field sort among them the two equalities with its branches.
use Rattle.std.specs.Prelude.{ℕ, ◌<◌, ◌↔◌, List, All, Contains, length}
use Rattle.std.specs.List.Sorted.{IsStrictlyIncreasing}
use Rattle.ffc_field.specs.Orders.{IsOrder}
use Rattle.ffc_term.specs.declared.check.Check.{Check}
use Rattle.ffc_term.specs.declared.node.Node.{Node}
use Rattle.ffc_term.specs.declared.node.Node.TheVariants.{IteField, Eq}
use Rattle.ffc_term.specs.Nodes.{IsNodeAt, IsConstantAt, children}
use Rattle.ffc_term.specs.Tables.{IsBooleanAt, IsTable}

-- id numbers a node of the check over the listed ones
pub data IsNodeOf (nodes : List Node) (ids : List ℕ) : ℕ → Type 0 where
  listed : {id : ℕ} → Contains ids id → IsNodeOf nodes ids id
  child : {id c : ℕ} (n : Node) → IsNodeOf nodes ids id → IsNodeAt nodes id n → Contains (children n) c → IsNodeOf nodes ids c
  first : {t e : ℕ} (c a b : ℕ) → IsNodeOf nodes ids t → IsNodeAt nodes t (IteField c a b) → IsNodeAt nodes e (Eq t a) → IsNodeOf nodes ids e
  second : {t e : ℕ} (c a b : ℕ) → IsNodeOf nodes ids t → IsNodeAt nodes t (IteField c a b) → IsNodeAt nodes e (Eq t b) → IsNodeOf nodes ids e

-- the nodes of the check over ids, each once, in increasing order
pub record AreNodesOf (nodes : List Node) (ids among : List ℕ) : Type 0 where
  pub increasing : IsStrictlyIncreasing among
  pub each : (id : ℕ) → Contains among id ↔ IsNodeOf nodes ids id

-- the constants among the nodes of the check over ids, each once, in increasing order
pub record AreConstantsOf (nodes : List Node) (ids constants : List ℕ) : Type 0 where
  pub increasing : IsStrictlyIncreasing constants
  pub each : (id : ℕ) → Contains constants id ↔ (IsNodeOf nodes ids id × IsConstantAt nodes id)

-- an increasing list of nodes that has the children of each of them
pub record IsClosed (nodes : List Node) (among : List ℕ) : Type 0 where
  pub increasing : IsStrictlyIncreasing among
  pub within : All (λ id. id < length nodes) among
  pub closed : (id c : ℕ) (n : Node) → Contains among id → IsNodeAt nodes id n → Contains (children n) c → Contains among c

-- A check over a table: the declared constants in increasing order, the Boolean nodes that are active, and the order
-- that was named first.
pub record IsValidCheck (nodes : List Node) (declared in_force : List ℕ) (first_order : ℕ) : Type 0 where
  pub table : IsTable nodes
  pub order : IsOrder first_order
  pub increasing : IsStrictlyIncreasing declared
  pub constants : All (IsConstantAt nodes) declared
  pub boolean : All (IsBooleanAt nodes) in_force
  pub covered : (id : ℕ) → IsNodeOf nodes in_force id → IsConstantAt nodes id → Contains declared id

-- what one check looks at is such a check
abbrev pub IsCheck : Check → Type 0
IsCheck c = IsValidCheck c.table.now c.declared.now c.in_force.now c.first_order
