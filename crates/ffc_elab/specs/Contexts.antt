-- What holds of every context, and of the nodes of what a command says and asks for: SMT-LIB 2.6, sections 4.1 and 4.2.
use Rattle.std.specs.Prelude.{ℕ, ◌<◌, List, [], ◌∷◌, length, map, All, Contains}
use Rattle.ffc_term.specs.Nodes.{IsConstantAt}
use Rattle.ffc_term.specs.Checks.{IsNodeOf}
use Rattle.ffc_smt.specs.Trees.{Word}
use Rattle.ffc_smt.specs.Terms as smt
use Rattle.ffc_smt.specs.States.{IsSoundState}
use Rattle.ffc_smt.specs.CheckLaws.{KeepsCheck}
use Rattle.ffc_smt.specs.TableChecks.{declared_nodes}
use Rattle.ffc_elab.specs.declared.answers.Asked.{Asked}
use Rattle.ffc_elab.specs.declared.answers.Command.{Command}
use Rattle.ffc_elab.specs.declared.answers.Command.TheVariants as command
use Rattle.ffc_elab.specs.Histories.{Known, known_of, state_of, check_now}

-- The state that these forms leave is sound. What a check looks at there is a valid check, whose active terms have nodes
-- that mean them.
pub record IsSoundContext (forms : List (List Word)) : Type 0 where
  pub state : IsSoundState (state_of forms)
  pub check : KeepsCheck (check_now (known_of forms))

-- These nodes are in the table, and each constant that they rest on is in scope.
pub record AreInScope (k : Known) (ids : List ℕ) : Type 0 where
  pub within : All (λ id. id < length k.state.nodes) ids
  pub covered : (id : ℕ) → IsNodeOf k.state.nodes ids id → IsConstantAt k.state.nodes id → Contains (declared_nodes (check_now k)) id

-- what a command asks for: assumptions, or terms whose values are wanted
abbrev pub asked_in : Command → List Asked
asked_in (command.CheckAssuming terms) = terms.items
asked_in (command.GetValue terms) = terms.items
asked_in _ = []

-- their nodes
abbrev pub asked_nodes : Command → List ℕ
asked_nodes c = map (λ a. a.node) (asked_in c)

-- the terms in a command that have a node after it; the body of a macro has none
abbrev pub terms_of : smt.Command → List smt.Term
terms_of (smt.Define name [] sort t) = t ∷ []
terms_of (smt.Assert label t) = t ∷ []
terms_of (smt.CheckSatAssuming asked) = map (λ a. a.term) asked
terms_of (smt.GetValue asked) = map (λ a. a.term) asked
terms_of _ = []
