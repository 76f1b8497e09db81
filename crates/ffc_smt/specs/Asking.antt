-- What a function asks a table for, node by node, in order: so that nodes may be interned up to the limit of a table, where
-- the whole term has too many.
use Rattle.std.specs.Prelude.{◌≡◌, ℕ, Bool, ◌<◌, ◌≤◌, List, [], ◌∷◌, ◌++◌, length, All, Contains}
use Rattle.ffc_field.specs.Orders.{IsOrder}
use Rattle.ffc_term.specs.declared.node.Node.{Node}
use Rattle.ffc_term.specs.declared.node.Node.TheVariants as node
use Rattle.ffc_term.specs.declared.node.Sort.{Sort}
use Rattle.ffc_term.specs.declared.node.Sort.TheVariants as sort
use Rattle.ffc_term.specs.Nodes.{sort_at}
use Rattle.ffc_term.specs.Tables.{IsTable, Fits, IsNumbered, ite_nodes, most_nodes}
use Rattle.ffc_smt.specs.Terms.{Operator, Not, And, Or, Xor, Implies, Equal, Distinct, Ite, Add, Mul, Neg, Bitsum}
use Rattle.ffc_smt.specs.Meaning.{residue_of_number}
use Rattle.ffc_smt.specs.Making.{interned, equality_of, equality, neighbours, difference, differences_from, differences, implications, choice, applied_made}
use Rattle.ffc_smt.specs.WellSorted.{Takes}

-- the nodes before, and the node that is asked for; an `ite` of field sort is asked for with its equalities
pub record Ask : Type 0 where
  pub before : List Node
  pub node : Node

abbrev pub ask : List Node → Node → Ask
ask nodes n = record { before = nodes; node = n }

abbrev pub equality_asks : List Node → ℕ → ℕ → List Ask
equality_asks nodes a b = ask nodes (equality_of (sort_at nodes a) a b) ∷ []

unfoldable pub neighbours_asks : List Node → ℕ → List ℕ → List Ask
neighbours_asks nodes a [] = []
neighbours_asks nodes a (b ∷ rest) = equality_asks nodes a b ++ neighbours_asks (equality nodes a b).nodes b rest

abbrev pub difference_asks : List Node → ℕ → ℕ → List Ask
difference_asks nodes a b = let e = equality nodes a b in equality_asks nodes a b ++ ask e.nodes (node.Not e.id) ∷ []

unfoldable pub differences_from_asks : List Node → ℕ → List ℕ → List Ask
differences_from_asks nodes a [] = []
differences_from_asks nodes a (b ∷ rest) = difference_asks nodes a b ++ differences_from_asks (difference nodes a b).nodes a rest

unfoldable pub differences_asks : List Node → List ℕ → List Ask
differences_asks nodes [] = []
differences_asks nodes (a ∷ rest) = differences_from_asks nodes a rest ++ differences_asks (differences_from nodes a rest).nodes rest

unfoldable pub exclusive_asks : List Node → ℕ → List ℕ → List Ask
exclusive_asks nodes a [] = []
exclusive_asks nodes a (b ∷ rest) = let x = interned nodes (node.Xor a b) in ask nodes (node.Xor a b) ∷ exclusive_asks x.nodes x.id rest

abbrev pub implication_asks : List Node → ℕ → ℕ → List Ask
implication_asks nodes a b = let n = interned nodes (node.Not a) in ask nodes (node.Not a) ∷ ask n.nodes (node.Or (n.id ∷ b ∷ [])) ∷ []

unfoldable pub implications_asks : List Node → ℕ → List ℕ → List Ask
implications_asks nodes a [] = []
implications_asks nodes a (b ∷ rest) = let last = implications nodes b rest in implications_asks nodes b rest ++ implication_asks last.nodes a last.id

abbrev pub choice_asks : Sort → List Node → ℕ → ℕ → ℕ → List Ask
choice_asks sort.Bool nodes c a b = ask nodes (node.IteBool c a b) ∷ []
choice_asks (sort.Field p) nodes c a b = ask nodes (node.IteField c a b) ∷ []

unfoldable pub applied_asks : Operator → List Node → List ℕ → List Ask
applied_asks Not nodes (a ∷ []) = ask nodes (node.Not a) ∷ []
applied_asks And nodes (a ∷ ids) = ask nodes (node.And (a ∷ ids)) ∷ []
applied_asks Or nodes (a ∷ ids) = ask nodes (node.Or (a ∷ ids)) ∷ []
applied_asks Xor nodes (a ∷ b ∷ rest) = exclusive_asks nodes a (b ∷ rest)
applied_asks Implies nodes (a ∷ b ∷ rest) = implications_asks nodes a (b ∷ rest)
applied_asks Equal nodes (a ∷ b ∷ []) = equality_asks nodes a b
applied_asks Equal nodes (a ∷ b ∷ c ∷ rest) = let m = neighbours nodes a (b ∷ c ∷ rest) in neighbours_asks nodes a (b ∷ c ∷ rest) ++ ask m.nodes (node.And m.ids) ∷ []
applied_asks Distinct nodes (a ∷ b ∷ []) = difference_asks nodes a b
applied_asks Distinct nodes (a ∷ b ∷ c ∷ rest) = let m = differences nodes (a ∷ b ∷ c ∷ rest) in differences_asks nodes (a ∷ b ∷ c ∷ rest) ++ ask m.nodes (node.And m.ids) ∷ []
applied_asks Ite nodes (c ∷ a ∷ b ∷ []) = choice_asks (sort_at nodes a) nodes c a b
applied_asks Add nodes (a ∷ ids) = ask nodes (node.Add (a ∷ ids)) ∷ []
applied_asks Mul nodes (a ∷ ids) = ask nodes (node.Mul (a ∷ ids)) ∷ []
applied_asks Neg nodes (a ∷ []) = ask nodes (node.Neg a) ∷ []
applied_asks Bitsum nodes (a ∷ ids) = ask nodes (node.Bitsum (a ∷ ids)) ∷ []
applied_asks _ nodes _ = []

-- the node numbered id is in the table and of this sort
abbrev pub IsSortAt : List Node → Sort → ℕ → Type 0
IsSortAt nodes s id = (id < length nodes) × (sort_at nodes id ≡ s)

abbrev pub AreSortsAt : List Node → List Sort → List ℕ → Type 0
AreSortsAt nodes [] [] = Unit {0}
AreSortsAt nodes [] (id ∷ ids) = ⊥
AreSortsAt nodes (s ∷ ss) [] = ⊥
AreSortsAt nodes (s ∷ ss) (id ∷ ids) = IsSortAt nodes s id × AreSortsAt nodes ss ids

-- the node may be put into the table
pub record FitsThere (k : Ask) : Type 0 where
  pub table : IsTable k.before
  pub fits : Fits k.before k.node
  pub numbered : IsNumbered k.before k.node

-- what is made begins with the table after this node
abbrev pub IsAskedOnTheWay : List Node → Ask → Type 0
IsAskedOnTheWay made k = (more : List Node) × (made ≡ (interned k.before k.node).nodes ++ more)

-- Of a function of arguments of its sorts, over a table: each node that it asks for fits, as long as the nodes before it
-- are not too many, and is on the way. Where all are not too many they are a table, with a node of the result's sort.
pub record AsksFit (op : Operator) (nodes : List Node) (ids : List ℕ) (s : Sort) : Type 0 where
  pub each : All (λ k. length k.before ≤ most_nodes → FitsThere k) (applied_asks op nodes ids)
  pub way : All (IsAskedOnTheWay (applied_made op nodes ids).nodes) (applied_asks op nodes ids)
  pub made : length (applied_made op nodes ids).nodes ≤ most_nodes → IsTable (applied_made op nodes ids).nodes × IsSortAt (applied_made op nodes ids).nodes s (applied_made op nodes ids).id

pub record MakingUpToTheLimit : Type 0 where
  pub applied : (op : Operator) (ss : List Sort) (s : Sort) (nodes : List Node) (ids : List ℕ) → Takes op ss s → IsTable nodes → AreSortsAt nodes ss ids → AsksFit op nodes ids s
  -- an `ite` of field sort that is new puts so many nodes, however many there are
  pub chosen : (nodes : List Node) (p c a b : ℕ) → IsTable nodes → (Contains nodes (node.IteField c a b) → ⊥)
      → choice (sort.Field p) nodes c a b ≡ record { nodes = nodes ++ ite_nodes (length nodes) c a b; id = length nodes }
  -- numbers of a field fit every table
  pub number : (nodes : List Node) (negative : Bool) (size p : ℕ) → IsOrder p → Fits nodes (node.Num (residue_of_number negative size p) p)
