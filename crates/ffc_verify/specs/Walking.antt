-- Walking a script.
use Rattle.std.specs.Prelude.{◌≡◌, ℕ, ◌<◌, ◌^◌, false, List, [], ◌∷◌, ◌++◌, length}
use Rattle.ffc_smt.specs.Scripts.{Done, reads}
use Rattle.ffc_smt.specs.TableChecks.{table_checks}
use Rattle.ffc_elab.specs.declared.answers.Command.{Command}
use Rattle.ffc_elab.specs.declared.answers.Command.TheVariants as command
use Rattle.ffc_verify.specs.declared.script.Kind.{Kind}
use Rattle.ffc_verify.specs.declared.script.Kind.TheVariants as kind
use Rattle.ffc_script.specs.declared.stop.ScriptStop.{ScriptStop}
use Rattle.ffc_script.specs.declared.stop.ScriptStop.TheVariants.{Fault, Memory}
use Rattle.ffc_elab.specs.Histories.{check_now}
use Rattle.ffc_script.specs.Progress.{Progress, steps_of, known_at}
use Rattle.ffc_script.specs.Answers.{end_at_fault}

abbrev pub kind_by : Command → Kind
kind_by command.Check = kind.Check
kind_by (command.CheckAssuming asked) = kind.Check
kind_by command.Exit = kind.Last
kind_by _ = kind.Other

-- the next check was given
pub record GivesCheck (old new : Progress) : Type 0 where
  pub text : new.text ≡ old.text
  pub over : new.over ≡ false
  pub checks : table_checks (steps_of new) ≡ table_checks (steps_of old) ++ check_now (known_at new) ∷ []

-- no check is left, and the script has no fault
pub record IsThrough (p : Progress) : Type 0 where
  pub done : (reads p.text).end ≡ Done
  pub checks : table_checks (reads p.text).steps ≡ table_checks (steps_of p)

-- the script has no fault, and so many checks
pub record IsCounted (script : List ℕ) (count : ℕ) : Type 0 where
  pub done : (reads script).end ≡ Done
  pub checks : length (table_checks (reads script).steps) ≡ count
  pub few : count < 2 ^ 32

-- the script's fault
abbrev pub IsFaultOf : List ℕ → ScriptStop → Type 0
IsFaultOf script (Fault f) = (reads script).end ≡ end_at_fault f
IsFaultOf script Memory = Unit {0}
