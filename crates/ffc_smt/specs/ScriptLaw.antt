-- The law of whole scripts: what is active at a check has a node, and that node means it. No premise is left but that
-- the limit of nodes is no greater than the table's.
use Rattle.std.specs.Prelude.{◌≡◌, ℕ, ◌+◌, ◌*◌, ◌≤◌, true, List, [], length, Some, All}
use Rattle.ffc_term.specs.declared.node.Node.{Node}
use Rattle.ffc_term.specs.declared.node.Sort.TheVariants as sort
use Rattle.ffc_term.specs.declared.value.Value.{Value}
use Rattle.ffc_term.specs.declared.value.Value.TheVariants as value
use Rattle.ffc_term.specs.Nodes.{sort_at}
use Rattle.ffc_term.specs.Values.{value_at}
use Rattle.ffc_term.specs.Tables.{IsTable, most_nodes}
use Rattle.ffc_smt.specs.Trees.{Tree}
use Rattle.ffc_smt.specs.Terms.{Term, weight, Asked, GetValue}
use Rattle.ffc_smt.specs.Meaning.{val}
use Rattle.ffc_smt.specs.Making.{made}
use Rattle.ffc_smt.specs.Law.{Means}
use Rattle.ffc_smt.specs.Bounds.{AreDefined}
use Rattle.ffc_smt.specs.Scopes.{scope_of}
use Rattle.ffc_smt.specs.Faults.{Sound}
use Rattle.ffc_smt.specs.TermReading.{Sorted, term_read}
use Rattle.ffc_smt.specs.CommandReading.{Limits}
use Rattle.ffc_smt.specs.Scripts.{Step, Check, check_of, in_force, IsAssignment, Holds, after, reads_within}

-- The term has its node among these: it makes nothing new, and under every assignment that node means the term.
pub record HasNode (nodes : List Node) (t : Term) : Type 0 where
  pub there : (made [] nodes t).nodes ≡ nodes
  pub means : (assignment : List Value) → Means nodes assignment (made [] nodes t).id (val [] assignment t)
  -- and what its defined names mean was interned before
  pub defined : AreDefined nodes t

-- the term's node is true under the assignment
abbrev pub IsTrueAt : List Node → List Value → Term → Type 0
IsTrueAt nodes assignment t = value_at nodes assignment (made [] nodes t).id ≡ value.Bool true

-- the nodes after a step
abbrev pub nodes_at : Step → List Node
nodes_at x = (after x.before x.tree x.command).nodes

pub record KeepsValues (x : Step) : Type 0 where
  pub table : IsTable (nodes_at x)
  -- what is active at a check has a node, and that is Boolean
  pub checked : (c : Check) → check_of x ≡ Some c → All (λ t. HasNode (nodes_at x) t × (sort_at (nodes_at x) (made [] (nodes_at x) t).id ≡ sort.Bool)) (in_force c)
  -- so an assignment makes true all that is active exactly where it makes true all those nodes
  pub forced : (c : Check) → check_of x ≡ Some c → (assignment : List Value) → Holds c assignment → All (IsTrueAt (nodes_at x) assignment) (in_force c)
  pub holds : (c : Check) → check_of x ≡ Some c → (assignment : List Value) → IsAssignment c.constants assignment → All (IsTrueAt (nodes_at x) assignment) (in_force c) → Holds c assignment
  -- what a `get-value` asks for has nodes too
  pub asked : (asked : List Asked) → x.command ≡ GetValue asked → All (λ a. HasNode (nodes_at x) a.term) asked

-- What a term makes of these nodes: they are a table, its node has its sort and means it under every assignment, and its
-- weight bounds how many there are.
pub record MakesNodes (nodes : List Node) (t : Sorted) : Type 0 where
  pub table : IsTable (made [] nodes t.term).nodes
  pub sort : sort_at (made [] nodes t.term).nodes (made [] nodes t.term).id ≡ t.sort
  pub means : (assignment : List Value) → Means (made [] nodes t.term).nodes assignment (made [] nodes t.term).id (val [] assignment t.term)
  pub bound : length (made [] nodes t.term).nodes ≤ length nodes + weight t.term * weight t.term

-- so does any term that could be read before a step, where its nodes fit; what its defined names mean was interned before
abbrev pub ReadsTerms : Step → Type 0
ReadsTerms x = (limit : ℕ) (tree : Tree) (t : Sorted) → term_read limit (scope_of x.before) [] tree ≡ Sound t
    → AreDefined x.before.nodes t.term × (length (made [] x.before.nodes t.term).nodes ≤ most_nodes → MakesNodes x.before.nodes t)

-- For every text, each step that is a check, each active term there and every assignment, the term's node in the nodes
-- so far has the value of the term.
abbrev pub ScriptsKeepValues : Type 0
ScriptsKeepValues = (l : Limits) (text : List ℕ) → l.nodes ≤ most_nodes → All KeepsValues (reads_within l text).steps

-- For every text and each step, the same of every term that could be read there.
abbrev pub ScriptsReadTerms : Type 0
ScriptsReadTerms = (l : Limits) (text : List ℕ) → l.nodes ≤ most_nodes → All ReadsTerms (reads_within l text).steps
