-- What holds of every check together with its table: it is valid, and its nodes are true exactly where its terms are.
use Rattle.std.specs.Prelude.{◌≡◌, ℕ, ◌≤◌, ◌↔◌, true, List, [], length, map, Some, All, Contains, slice_get}
use Rattle.ffc_term.specs.declared.node.Node.{Node}
use Rattle.ffc_term.specs.declared.value.Value.{Value}
use Rattle.ffc_term.specs.declared.value.Value.TheVariants as value
use Rattle.ffc_term.specs.Nodes.{IsNodeAt, IsConstantAt}
use Rattle.ffc_term.specs.Values.{value_at}
use Rattle.ffc_term.specs.Tables.{most_nodes}
use Rattle.ffc_term.specs.Checks.{IsNodeOf, IsValidCheck}
use Rattle.ffc_smt.specs.Trees.{Tree}
use Rattle.ffc_smt.specs.Terms.{Term, Constant, Command, Asked, GetValue}
use Rattle.ffc_smt.specs.Meaning.{TruthValue, val}
use Rattle.ffc_smt.specs.Making.{constant_node}
use Rattle.ffc_smt.specs.Scopes.{State, Declared, declared_of}
use Rattle.ffc_smt.specs.Faults.{Sound}
use Rattle.ffc_smt.specs.CommandReading.{Limits, command_read}
use Rattle.ffc_smt.specs.Scripts.{Step, in_force, IsAssignment, Holds, reads_within}
use Rattle.ffc_smt.specs.TableChecks.{TableCheck, node_of, declared_nodes, nodes_in_force, names_in_force, table_check_of, table_checks}
use Rattle.ffc_smt.specs.ScriptLaw.{HasNode, nodes_at}
use Rattle.ffc_smt.specs.States.{IsSoundState}
use Rattle.ffc_smt.specs.ScopedStates.{IsScopedState}

-- the active terms at these numbers are true under the assignment
abbrev pub TermsHoldAt : TableCheck → List ℕ → List Value → Type 0
TermsHoldAt c numbers assignment = All (λ k. (t : Term) → slice_get (in_force c.check) k ≡ Some t → val [] assignment t ≡ TruthValue true) numbers

-- and their nodes
abbrev pub NodesHoldAt : TableCheck → List ℕ → List Value → Type 0
NodesHoldAt c numbers assignment = All (λ k. (id : ℕ) → slice_get (nodes_in_force c) k ≡ Some id → value_at c.nodes assignment id ≡ value.Bool true) numbers

-- no assignment makes the terms at these numbers true: what a core says
abbrev pub CannotHoldAt : TableCheck → List ℕ → Type 0
CannotHoldAt c numbers = (assignment : List Value) → IsAssignment c.check.constants assignment → TermsHoldAt c numbers assignment → ⊥

-- the constant has its node, which is declared with the check
pub record HasConstantNode (c : TableCheck) (d : Declared) : Type 0 where
  pub at : IsNodeAt c.nodes (node_of c.nodes (Constant d.number d.sort)) (constant_node d.number d.sort)
  pub counted : slice_get c.check.constants d.number ≡ Some d.sort

pub record KeepsCheck (c : TableCheck) : Type 0 where
  -- constants in scope increase, all constants of the cone are among them, and what is active is Boolean
  pub valid : IsValidCheck c.nodes (declared_nodes c) (nodes_in_force c) c.check.first_order
  -- each active term has its node
  pub each : All (HasNode c.nodes) (in_force c.check)
  pub declared : All (HasConstantNode c) c.declared
  -- an assignment makes the check true exactly where it gives every constant a value and makes all active nodes true
  pub holds : (assignment : List Value) → Holds c.check assignment ↔ (IsAssignment c.check.constants assignment × All (λ id. value_at c.nodes assignment id ≡ value.Bool true) (nodes_in_force c))
  -- at some numbers terms are true exactly where their nodes are
  pub some : (numbers : List ℕ) (assignment : List Value) → TermsHoldAt c numbers assignment ↔ NodesHoldAt c numbers assignment
  -- so no assignment makes these terms true where none makes these nodes true
  pub core : (numbers : List ℕ) → ((assignment : List Value) → IsAssignment c.check.constants assignment → NodesHoldAt c numbers assignment → ⊥) → CannotHoldAt c numbers
  -- one node and one name for each term
  pub nodes_long : length (nodes_in_force c) ≡ length (in_force c.check)
  pub names_long : length (names_in_force c) ≡ length (in_force c.check)

-- the nodes of the constants in scope at a state, in this table
abbrev pub constants_in : List Node → State → List ℕ
constants_in nodes s = map (λ d. node_of nodes (Constant d.number d.sort)) (declared_of s)

-- each constant among the cone of what a `get-value` asks for is in scope
abbrev pub KeepsAsked : Step → Type 0
KeepsAsked x = (asked : List Asked) → x.command ≡ GetValue asked
    → (id : ℕ) → IsNodeOf (nodes_at x) (map (λ a. node_of (nodes_at x) a.term) asked) id → IsConstantAt (nodes_at x) id → Contains (constants_in (nodes_at x) x.before) id

-- Of one step, from what its state keeps.
pub record StepsKeepChecks : Type 0 where
  pub check : (l : Limits) (s : State) (tree : Tree) (d : Command) (c : TableCheck) → l.nodes ≤ most_nodes → IsSoundState s → IsScopedState s → command_read l s tree ≡ Sound d
      → table_check_of (record { before = s; tree = tree; command = d }) ≡ Some c → KeepsCheck c
  pub asked : (l : Limits) (s : State) (tree : Tree) (d : Command) → l.nodes ≤ most_nodes → IsSoundState s → IsScopedState s → command_read l s tree ≡ Sound d
      → KeepsAsked (record { before = s; tree = tree; command = d })

-- For every text, all its checks.
abbrev pub ScriptsKeepChecks : Type 0
ScriptsKeepChecks = (l : Limits) (text : List ℕ) → l.nodes ≤ most_nodes
    → All (λ x. ((c : TableCheck) → table_check_of x ≡ Some c → KeepsCheck c) × KeepsAsked x) (reads_within l text).steps × All KeepsCheck (table_checks (reads_within l text).steps)
