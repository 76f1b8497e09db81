-- Which views are those of a step: what is remembered of the last check, and the context after the step.
use Rattle.std.specs.Prelude.{◌≡◌, ℕ, true, Bool, List, [], ◌++◌, length, map, All, Option, Some, None, option_map, option_and_then}
use Rattle.std.specs.Option.{option_copied}
use Rattle.ffc_cert.specs.declared.entries.Entry.{Entry}
use Rattle.ffc_cert.specs.declared.entries.Entry.TheVariants.{Sat, Unknown}
use Rattle.ffc_term.specs.declared.node.Node.{Node}
use Rattle.ffc_term.specs.Tables.{constant_count}
use Rattle.ffc_smt.specs.Scopes.{State, declared_of, assertions_of}
use Rattle.ffc_smt.specs.Scripts.{Step, after}
use Rattle.ffc_smt.specs.TableChecks.{TableCheck, declared_nodes, nodes_in_force}
use Rattle.ffc_smt.specs.ScriptLaw.{HasNode}
use Rattle.ffc_smt.specs.CheckLaws.{KeepsCheck}
use Rattle.ffc_smt.specs.Answering.{asked_text}
use Rattle.ffc_rules.specs.Cores.{core}
use Rattle.ffc_elab.specs.declared.answers.Command.{Command}
use Rattle.ffc_elab.specs.Histories.{assumptions_of, known_of}
use Rattle.ffc_elab.specs.Answers.{IsAnswered}
use Rattle.ffc_elab.specs.Contexts.{terms_of}
use Rattle.ffc_answer.specs.declared.view.View.{View}
use Rattle.ffc_answer.specs.Answers.{Last}
use Rattle.ffc_answer.specs.Seen.{HasBudget}

-- The entry is one of the check: listed values are those of its constants, in the order of declaration, and counts of units are
-- those of a budget.
abbrev pub IsEntryFor : TableCheck → Entry → Type 0
IsEntryFor check (Sat pairs) = map (λ p. p.0) pairs ≡ declared_nodes check
IsEntryFor check (Unknown cause) = HasBudget cause
IsEntryFor check _ = Unit {0}

-- what a model and a core speak of is as it was at the check
pub record IsUnchanged (check : TableCheck) (s : State) : Type 0 where
  pub constants : s.constants ≡ check.check.constants
  pub declared : declared_of s ≡ check.declared
  pub asserted : assertions_of s ≡ check.check.assertions

-- the check is one that came before this state, and the entry is one of it
pub record IsRemembered (l : Last) (s : State) : Type 0 where
  pub entry : IsEntryFor l.check l.entry
  pub kept : KeepsCheck l.check
  pub counted : constant_count l.check.nodes ≡ length l.check.check.constants
  pub grown : (more : List Node) × (s.nodes ≡ l.check.nodes ++ more)
  pub unchanged : l.fresh ≡ true → IsUnchanged l.check s

abbrev pub IsRememberedAt : Option Last → State → Type 0
IsRememberedAt None s = Unit {0}
IsRememberedAt (Some l) s = IsRemembered l s

abbrev pub entry_of : Option Last → Option Entry
entry_of l = option_map (λ k. k.entry) l

abbrev pub IsFreshAs : Option Last → Bool → Type 0
IsFreshAs None fresh = Unit {0}
IsFreshAs (Some l) fresh = fresh ≡ l.fresh

-- the numbers that the last entry uses of the active list at its check
abbrev pub numbers_of : Option Last → List ℕ
numbers_of None = []
numbers_of (Some l) = core l.entry (length (nodes_in_force l.check))

-- the texts of the assumptions of the last check, if it was a check under assumptions
abbrev pub assumed_of : Option Last → Option (List (List ℕ))
assumed_of l = option_map (map asked_text) (option_and_then (λ k. k.asked) l)

-- A view of a step, whose command was answered so, where this is remembered after it.
pub record IsView (v : View) (command : Command) (l : Option Last) (x : Step) : Type 0 where
  -- each term of the command has its node
  pub values : All (HasNode (after x.before x.tree x.command).nodes) (terms_of x.command)
  pub known : known_of v.context.now ≡ record { state = after x.before x.tree x.command; assumptions = assumptions_of x.command }
  pub answered : IsAnswered (after x.before x.tree x.command) x.command command
  pub remembered : IsRememberedAt l (after x.before x.tree x.command)
  pub last : option_copied v.last ≡ entry_of l
  pub fresh : IsFreshAs l v.fresh
  pub core : v.core.now ≡ numbers_of l
  pub asked : option_map (λ asked. map (λ a. a.text) asked) (option_copied v.asked) ≡ assumed_of l
