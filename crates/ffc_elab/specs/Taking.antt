-- What taking a command leaves of what a context keeps.
use Rattle.std.specs.Prelude.{◌≡◌, List, Result, Ok, Err}
use Rattle.ffc_smt.specs.Trees.{Word, Tree}
use Rattle.ffc_smt.specs.Faults.{Sound}
use Rattle.ffc_smt.specs.Terms as smt
use Rattle.ffc_smt.specs.CommandReading.{limits, command_read}
use Rattle.ffc_parts.specs.declared.heads.Head.{Head}
use Rattle.ffc_words.specs.declared.faults.TakeStop.{TakeStop}
use Rattle.ffc_words.specs.declared.faults.TakeStop.TheVariants as stop
use Rattle.ffc_words.specs.Words.{fault_of}
use Rattle.ffc_words.specs.Outcomes.{outcome}
use Rattle.ffc_elab.specs.declared.answers.Command.{Command}
use Rattle.ffc_elab.specs.declared.store.Store.{Store}
use Rattle.ffc_elab.specs.Histories.{Known, known_by}
use Rattle.ffc_elab.specs.Answers.{IsAnswered}
use Rattle.ffc_elab.specs.Kept.{IsKept, IsKnown}
use Rattle.ffc_elab.specs.Reading.{IsCommandForm}

-- the command that was read, what is kept after it, and its answer
pub record IsCommandTaken (k : Known) (tree : Tree) (new : Store) (r : Command) : Type 0 where
  pub command : smt.Command
  pub read : command_read limits k.state tree ≡ Sound command
  pub kept : IsKept (known_by k tree command) new
  pub answered : IsAnswered (known_by k tree command).state command r

abbrev pub TakesKept : Known → Tree → Store → Result Command TakeStop → Type 0
TakesKept k tree new (Ok r) = IsCommandTaken k tree new r
TakesKept k tree new (Err (stop.Fault f)) = (outcome (command_read limits k.state tree) ≡ Err (fault_of f)) × IsKept k new
TakesKept k tree new (Err stop.Memory) = IsKept k new

-- What is kept belongs to what is known of some forms, and the words are those of a form with this head.
pub record IsReady (words : List Word) (s : Store) (h : Head) : Type 0 where
  pub known : Known
  pub tree : Tree
  pub kept : IsKept known s
  pub sound : IsKnown known
  pub form : IsCommandForm words known.state tree h
