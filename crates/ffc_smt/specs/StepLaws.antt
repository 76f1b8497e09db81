-- What holds of one command that is read at a sound state: the same as of each command of a script, and what the terms
-- and constants in it make.
use Rattle.std.specs.Prelude.{◌≡◌, ◌+◌, ◌*◌, ◌≤◌, [], ◌∷◌, ◌++◌, length, Option}
use Rattle.ffc_term.specs.declared.node.Sort.{Sort}
use Rattle.ffc_term.specs.declared.node.Sort.TheVariants as sort
use Rattle.ffc_term.specs.Nodes.{sort_at}
use Rattle.ffc_term.specs.Tables.{most_nodes}
use Rattle.ffc_smt.specs.Trees.{Tree}
use Rattle.ffc_smt.specs.Terms.{Name, Term, Command, Declare, Define, Assert}
use Rattle.ffc_smt.specs.Making.{constant_node, made}
use Rattle.ffc_smt.specs.Scopes.{State}
use Rattle.ffc_smt.specs.Faults.{Sound}
use Rattle.ffc_smt.specs.CommandReading.{Limits, form_read, command_weight, command_read}
use Rattle.ffc_smt.specs.Scripts.{Step}
use Rattle.ffc_smt.specs.TableChecks.{node_of}
use Rattle.ffc_smt.specs.ScriptLaw.{HasNode, nodes_at, KeepsValues, ReadsTerms}
use Rattle.ffc_smt.specs.States.{IsSoundState}

-- The nodes after the step are those that the term made of the nodes before it. The term has its node there, of this sort.
pub record MakesTerm (x : Step) (t : Term) (s : Sort) : Type 0 where
  pub nodes : nodes_at x ≡ (made [] x.before.nodes t).nodes
  pub node : node_of (nodes_at x) t ≡ (made [] x.before.nodes t).id
  pub has : HasNode (nodes_at x) t
  pub sort : sort_at (nodes_at x) (node_of (nodes_at x) t) ≡ s

pub record MakesItsOwn (x : Step) : Type 0 where
  pub asserted : (label : Option Name) (t : Term) → x.command ≡ Assert label t → MakesTerm x t sort.Bool
  -- `define-fun` without parameters
  pub defined : (name : Name) (s : Sort) (t : Term) → x.command ≡ Define name [] s t → MakesTerm x t s
  pub declared : (name : Name) (s : Sort) → x.command ≡ Declare name s → nodes_at x ≡ x.before.nodes ++ constant_node (length x.before.constants) s ∷ []

abbrev pub StepsKeepValues : Type 0
StepsKeepValues = (l : Limits) (s : State) (tree : Tree) (c : Command) → l.nodes ≤ most_nodes → IsSoundState s → command_read l s tree ≡ Sound c
    → KeepsValues (record { before = s; tree = tree; command = c }) × ReadsTerms (record { before = s; tree = tree; command = c }) × MakesItsOwn (record { before = s; tree = tree; command = c })

-- A command that is light for the nodes that are left is not refused for its nodes (code 15): its weight times itself, and
-- one for a declaration, fit beside those that there are.
abbrev pub LightCommandsFit : Type 0
LightCommandsFit = (l : Limits) (s : State) (tree : Tree) (c : Command) → IsSoundState s → form_read l s tree ≡ Sound c
    → length s.nodes + command_weight c * command_weight c + 1 ≤ l.nodes → command_weight c ≤ l.weight → command_read l s tree ≡ Sound c
