-- How answers go on from step to step: what is remembered fits the state that each step leaves, and the answers to more steps
-- are those so far and then those that follow from what is remembered. A view of a step has what its answer looks at.
use Rattle.std.specs.Prelude.{◌≡◌, List, [], ◌∷◌, ◌++◌, length, Option, Some, None}
use Rattle.ffc_cert.specs.declared.entries.Entry.{Entry}
use Rattle.ffc_smt.specs.Faults.{Sound}
use Rattle.ffc_smt.specs.CommandReading.{limits, command_read}
use Rattle.ffc_smt.specs.Scopes.{first_state}
use Rattle.ffc_smt.specs.States.{IsSoundState}
use Rattle.ffc_smt.specs.ScopedStates.{IsScopedState}
use Rattle.ffc_smt.specs.Scripts.{Step, after}
use Rattle.ffc_smt.specs.TableChecks.{TableCheck, table_check_of, table_checks}
use Rattle.ffc_elab.specs.declared.answers.Command.{Command}
use Rattle.ffc_answer.specs.declared.view.View.{View}
use Rattle.ffc_answer.specs.Answers.{Last, checked, last_after, answer_of, answers_from, last_from}
use Rattle.ffc_answer.specs.Seen.{CanAnswer}
use Rattle.ffc_answer.specs.Views.{IsEntryFor, IsRemembered, IsRememberedAt, IsView}

pub record RememberingGoesOn : Type 0 where
  pub first : IsRememberedAt None first_state
  -- after a command that is no check
  pub quiet : (l : Option Last) (x : Step) → IsRememberedAt l x.before → IsRememberedAt (last_after l x.command) (after x.before x.tree x.command)
  -- after a check, with its entry
  pub check : (x : Step) (c : TableCheck) (entry : Entry) → IsSoundState x.before → IsScopedState x.before → command_read limits x.before x.tree ≡ Sound x.command
      → table_check_of x ≡ Some c → IsEntryFor c entry → IsRemembered (checked x.command c entry) (after x.before x.tree x.command)

pub record AnswersGoOn : Type 0 where
  -- where each check of the first steps has an entry
  pub answers : (l : Option Last) (xs ys : List Step) (es fs : List Entry) → length (table_checks xs) ≡ length es
      → answers_from l (xs ++ ys) (es ++ fs) ≡ answers_from l xs es ++ answers_from (last_from l xs es) ys fs
  pub last : (l : Option Last) (xs ys : List Step) (es fs : List Entry) → length (table_checks xs) ≡ length es
      → last_from l (xs ++ ys) (es ++ fs) ≡ last_from (last_from l xs es) ys fs
  -- one step: a command that is no check, and a check with its entry
  pub quiet : (l : Option Last) (x : Step) → table_check_of x ≡ None
      → (answers_from l (x ∷ []) [] ≡ answer_of (last_after l x.command) x) × (last_from l (x ∷ []) [] ≡ last_after l x.command)
  pub check : (l : Option Last) (x : Step) (c : TableCheck) (entry : Entry) → table_check_of x ≡ Some c
      → (answers_from l (x ∷ []) (entry ∷ []) ≡ answer_of (Some (checked x.command c entry)) x) × (last_from l (x ∷ []) (entry ∷ []) ≡ Some (checked x.command c entry))
  -- a check without an entry ends the answers
  pub ends : (l : Option Last) (x : Step) (xs : List Step) (c : TableCheck) → table_check_of x ≡ Some c → answers_from l (x ∷ xs) [] ≡ []

abbrev pub ViewsCanAnswer : Type 0
ViewsCanAnswer = (v : View) (command : Command) (l : Option Last) (x : Step) → IsView v command l x → CanAnswer v command
