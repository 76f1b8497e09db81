-- What nodes mean: each has the sort and, under an assignment, the value of the term that made it.
use Rattle.std.specs.Prelude.{◌≡◌, ℕ, ◌<◌, List, [], ◌∷◌, length}
use Rattle.ffc_term.specs.declared.node.Node.{Node}
use Rattle.ffc_term.specs.declared.value.Value.{Value}
use Rattle.ffc_term.specs.Nodes.{sort_at}
use Rattle.ffc_term.specs.Values.{value_at}
use Rattle.ffc_term.specs.Tables.{IsWellFormed}
use Rattle.ffc_smt.specs.Terms.{Term}
use Rattle.ffc_smt.specs.Meaning.{Env, Element, sort_of, value_of, val}
use Rattle.ffc_smt.specs.Making.{made}

-- the node numbered id has the sort and the value of an element
pub record Means (nodes : List Node) (assignment : List Value) (id : ℕ) (e : Element) : Type 0 where
  pub within : id < length nodes
  pub sort : sort_at nodes id ≡ sort_of e
  pub value : value_at nodes assignment id ≡ value_of e

-- the variables' nodes mean what the variables mean
abbrev pub Agree : List Node → List Value → Env ℕ → Env Element → Type 0
Agree nodes assignment [] [] = Unit {0}
Agree nodes assignment [] (y ∷ ys) = ⊥
Agree nodes assignment (x ∷ xs) [] = ⊥
Agree nodes assignment (x ∷ xs) (y ∷ ys) = (x.0 ≡ y.0) × Means nodes assignment x.1 y.1 × Agree nodes assignment xs ys

-- Every node that a term makes has, under every assignment, the value of the term, and its sort is the value's.
abbrev pub NodesKeepValues : Type 0
NodesKeepValues = (t : Term) (ids : Env ℕ) (env : Env Element) (nodes : List Node) (assignment : List Value)
    → Agree nodes assignment ids env → IsWellFormed (made ids nodes t).nodes
    → Means (made ids nodes t).nodes assignment (made ids nodes t).id (val env assignment t)
