-- What a reader answers.
use Rattle.std.specs.Prelude.{◌≡◌, ℕ, Bool, true, false, List, [], ◌∷◌, ◌++◌, Option, Some, None, All}
use Rattle.ffc_lex.specs.Reading.{fault_of}
use Rattle.ffc_smt.specs.Faults.{Sound}
use Rattle.ffc_smt.specs.CommandReading.{limits, command_read}
use Rattle.ffc_smt.specs.Scripts.{Step, Script, End, Done, AtFault, reads}
use Rattle.ffc_smt.specs.GoingOn.{Going, run_of}
use Rattle.ffc_smt.specs.TableChecks.{TableCheck, table_check_of}
use Rattle.ffc_smt.specs.ScriptLaw.{HasNode}
use Rattle.ffc_elab.specs.declared.answers.Command.{Command}
use Rattle.ffc_elab.specs.declared.answers.Command.TheVariants as command
use Rattle.ffc_elab.specs.Histories.{Known, known_by, check_now}
use Rattle.ffc_elab.specs.Answers.{IsAnswered}
use Rattle.ffc_elab.specs.Contexts.{terms_of}
use Rattle.ffc_lex.specs.declared.faults.ScriptFault.{ScriptFault}
use Rattle.ffc_script.specs.declared.stop.ScriptStop.{ScriptStop}
use Rattle.ffc_script.specs.declared.stop.ScriptStop.TheVariants.{Fault, Memory}
use Rattle.ffc_script.specs.Progress.{Progress, steps_of, known_at}

-- the command ends the script
abbrev pub ends : Command → Bool
ends command.Exit = true
ends _ = false

-- the check that a command makes, where this is known after it
abbrev pub check_by : Command → Known → Option TableCheck
check_by command.Check k = Some (check_now k)
check_by (command.CheckAssuming asked) k = Some (check_now k)
check_by _ k = None

-- however the text goes on, it says this
abbrev pub SaysOnly : List ℕ → List Step → End → Type 0
SaysOnly text steps end = (more : List ℕ) → reads (text ++ more) ≡ record { steps = steps; end = end }

abbrev pub end_at_fault : ScriptFault → End
end_at_fault f = AtFault f.line f.column f.code

-- the next command was given
pub record Gives (old new : Progress) (c : Command) : Type 0 where
  pub step : Step
  pub before : step.before ≡ (known_at old).state
  pub read : command_read limits step.before step.tree ≡ Sound step.command
  pub text : new.text ≡ old.text
  pub steps : steps_of new ≡ steps_of old ++ step ∷ []
  pub known : known_at new ≡ known_by (known_at old) step.tree step.command
  pub answered : IsAnswered (known_at new).state step.command c
  -- each term of the command has its node
  pub values : All (HasNode (known_at new).state.nodes) (terms_of step.command)
  pub check : table_check_of step ≡ check_by c (known_at new)
  pub over : new.over ≡ ends c
  pub ended : ends c ≡ true → SaysOnly new.text (steps_of new) Done

-- each form so far was given, and the text so far is not at fault
pub record HasRun (p : Progress) : Type 0 where
  pub going : p.over ≡ false
  pub run : run_of limits p.text ≡ Going (steps_of p) (known_at p).state
  pub sound : fault_of p.text ≡ None

-- a fault is what follows the commands so far, however the text goes on
abbrev pub StopsAt : Progress → ScriptStop → Type 0
StopsAt p (Fault f) = SaysOnly p.text (steps_of p) (end_at_fault f)
StopsAt p Memory = Unit {0}

-- where the text ends here
abbrev pub SaysAll : Progress → Type 0
SaysAll p = reads p.text ≡ record { steps = steps_of p; end = Done }

abbrev pub EndsAt : Progress → ScriptStop → Type 0
EndsAt p (Fault f) = reads p.text ≡ record { steps = steps_of p; end = end_at_fault f }
EndsAt p Memory = Unit {0}
