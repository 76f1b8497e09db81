-- What was written while the commands of a script are answered one by one, after the certificate's first line.
use Rattle.std.specs.Prelude.{◌≡◌, ℕ, ◌+◌, ◌≤◌, ◌<◌, ◌⊎◌, Bool, true, false, List, [], ◌++◌, length, take, Option, Some, None}
use Rattle.std.specs.List.{flat_map}
use Rattle.ffc_base.specs.Outside.{Appends, AppendsPrefix}
use Rattle.ffc_cert.specs.declared.entries.Entry.{Entry}
use Rattle.ffc_cert.specs.Spelling.{entry_text}
use Rattle.ffc_lex.specs.Reading.{fault_of}
use Rattle.ffc_smt.specs.CommandReading.{limits as reading_limits}
use Rattle.ffc_smt.specs.Scopes.{State}
use Rattle.ffc_smt.specs.Scripts.{Step, End, Done, AtFault, reads}
use Rattle.ffc_smt.specs.GoingOn.{Going, run_of}
use Rattle.ffc_smt.specs.TableChecks.{table_checks}
use Rattle.ffc_answer.specs.Answers.{Last, answers, end_answer, script_answers, verdict}
use Rattle.ffc_script.specs.Answers.{HasRun, SaysOnly, StopsAt}
use Rattle.ffc_script.specs.declared.stop.ScriptStop.TheVariants.{Fault}
use Rattle.ffc_script.specs.Progress.{Progress, steps_of}
use Rattle.ffc_solve.specs.declared.arguments.Task.{Task}
use Rattle.ffc_solve.specs.declared.dialogue.Dialogue.{Dialogue}
use Rattle.ffc_solve.specs.declared.dialogue.Advance.{Advance}
use Rattle.ffc_solve.specs.declared.dialogue.Advance.TheVariants as advance
use Rattle.ffc_solve.specs.Changes.{Change, IsSilent}
use Rattle.ffc_solve.specs.Solving.{AreEntries, IsRest}
use Rattle.ffc_solve.specs.Remembering.{Holds, Counts}

-- An entry was written in part, or as a whole, and then its verdict in part.
abbrev pub IsHalfTold : Entry → Change → Change → Type 0
IsHalfTold entry cert out =
    (AppendsPrefix (entry_text entry) cert.old cert.new × (out.new ≡ out.old))
    ⊎ (Appends (entry_text entry) cert.old cert.new × AppendsPrefix (verdict entry) out.old out.new)

-- One more command is answered.
pub record IsTold (old new : Dialogue) (entries : List Entry) (cert out : Change) : Type 0 where
  pub more : List Entry
  pub last : Option Last
  pub holds : Holds new.reader new (entries ++ more) last
  pub certificate : Appends (flat_map entry_text more) cert.old cert.new
  pub text : List ℕ
  pub answered : Appends text out.old out.new
  pub answers_are : answers (steps_of new.reader) (entries ++ more) ≡ answers (steps_of old.reader) entries ++ text
  pub same_text : new.reader.text ≡ old.reader.text
  pub longer : length (steps_of new.reader) ≡ length (steps_of old.reader) + 1
  pub task : new.task ≡ old.task
  pub taken : new.taken ≡ old.taken

-- how a dialogue went on that has these entries
abbrev pub GoesOn : Dialogue → Dialogue → List Entry → Change → Change → Advance → Type 0
GoesOn old new entries cert out advance.Answered = IsTold old new entries cert out × (new.reader.over ≡ false)
GoesOn old new entries cert out advance.Waiting = IsSilent cert out × (new ≡ old) × HasRun old.reader
GoesOn old new entries cert out advance.Ended =
    IsTold old new entries cert out × SaysOnly new.reader.text (steps_of new.reader) Done
GoesOn old new entries cert out (advance.Fault f) =
    IsSilent cert out × StopsAt old.reader (Fault f) × (new.tally ≡ old.tally)

-- The run stopped, however the script goes on: after the entries there is at most a front of one more, and no more is answered than
-- the entries say.
pub record IsCutAt (old : Dialogue) (entries : List Entry) (more : List ℕ) (cert out : Change) : Type 0 where
  pub later : List Entry
  pub each : AreEntries old.task (table_checks (reads (old.reader.text ++ more)).steps) (entries ++ later)
  pub part : List ℕ
  pub rest : IsRest old.task (table_checks (reads (old.reader.text ++ more)).steps) (entries ++ later) part
  pub certificate : Appends (flat_map entry_text later ++ part) cert.old cert.new
  pub text : List ℕ
  pub answered : Appends text out.old out.new
  pub behind : List ℕ
  pub answers_are : answers (reads (old.reader.text ++ more)).steps (entries ++ later) ≡ answers (steps_of old.reader) entries ++ (text ++ behind)

-- the text is what was read of the bytes that were left first, and the others are left now
abbrev pub HasRead : Option (List ℕ) → Option (List ℕ) → List ℕ → Type 0
HasRead None now text = Unit {0}
HasRead (Some bytes) now text = (rest : List ℕ) × (bytes ≡ text ++ rest) × (now ≡ Some rest)

-- there was nothing left
abbrev pub IsAtEnd : Option (List ℕ) → Option (List ℕ) → Type 0
IsAtEnd None now = Unit {0}
IsAtEnd (Some bytes) now = (bytes ≡ []) × (now ≡ Some [])

-- no more is read: nothing is left, or as much was taken as may be
abbrev pub IsEnd : Dialogue → Change → Type 0
IsEnd s left = IsAtEnd left.old left.new ⊎ ((left.new ≡ left.old) × (length s.reader.text ≡ 67108865))

-- a piece was read, and is in the reader
pub record HasFed (old new : Dialogue) (left : Change) : Type 0 where
  pub piece : List ℕ
  pub read : HasRead left.old left.new piece
  pub reader : new.reader ≡ record old.reader { text = old.reader.text ++ piece }
  pub some : 0 < length piece
  pub few : length old.reader.text + length piece ≤ 67108865
  pub short : length piece ≤ 4096
  pub taken : new.taken ≡ old.taken + length piece
  pub same : (new.task ≡ old.task) × (new.last ≡ old.last) × (new.tally ≡ old.tally)

-- Whole scripts

-- the script has a fault
abbrev pub is_fault : End → Bool
is_fault Done = false
is_fault (AtFault at_line column code) = true

-- All commands and the end of a script are answered.
pub record IsAnswered (task : Task) (script : List ℕ) (refused : Bool) (new : Dialogue) (cert out : Change) : Type 0 where
  pub entries : List Entry
  pub each : AreEntries task (table_checks (reads script).steps) entries
  pub all : length entries ≡ length (table_checks (reads script).steps)
  pub certificate : Appends (flat_map entry_text entries) cert.old cert.new
  pub answered : Appends (script_answers (reads script) entries) out.old out.new
  pub tally : Counts new.tally entries
  pub ended : refused ≡ is_fault (reads script).end

-- The run stopped before that.
pub record IsCut (task : Task) (script : List ℕ) (cert out : Change) : Type 0 where
  pub entries : List Entry
  pub each : AreEntries task (table_checks (reads script).steps) entries
  pub part : List ℕ
  pub rest : IsRest task (table_checks (reads script).steps) entries part
  pub certificate : Appends (flat_map entry_text entries ++ part) cert.old cert.new
  pub answered : AppendsPrefix (script_answers (reads script) entries) out.old out.new

-- Reading failed after this text: just its commands are answered.
pub record IsPausedAt (task : Task) (text : List ℕ) (cert out : Change) : Type 0 where
  pub steps : List Step
  pub state : State
  pub run : run_of reading_limits text ≡ Going steps state
  pub sound : fault_of text ≡ None
  pub entries : List Entry
  pub each : AreEntries task (table_checks steps) entries
  pub all : length entries ≡ length (table_checks steps)
  pub certificate : Appends (flat_map entry_text entries) cert.old cert.new
  pub answered : Appends (answers steps entries) out.old out.new

-- These commands are answered, after the certificate's first line; more may follow.
pub record AreAnsweredAt (steps : List Step) (cert out : Change) : Type 0 where
  pub entries : List Entry
  pub all : length entries ≡ length (table_checks steps)
  pub more_entries : List ℕ
  pub certificate : Appends (flat_map entry_text entries ++ more_entries) cert.old cert.new
  pub more_answers : List ℕ
  pub answered : Appends (answers steps entries ++ more_answers) out.old out.new

-- each command after whose `)` more than 4,095 bytes of this text were taken
abbrev pub AnswersSoonAt : List ℕ → Change → Change → Type 0
AnswersSoonAt text cert out = (n : ℕ) → n + 4095 < length text → AreAnsweredAt (reads (take n text)).steps cert out

-- the end of a text was answered
pub record IsFinished (p : Progress) (refused : Bool) (out : Change) : Type 0 where
  pub end : End
  pub says : reads p.text ≡ record { steps = steps_of p; end = end }
  pub answered : Appends (end_answer end) out.old out.new
  pub ended : refused ≡ is_fault end

-- or in part
abbrev pub IsUnfinished : Progress → Change → Type 0
IsUnfinished p out =
    (out.new ≡ out.old) ⊎ ((end : End) × (reads p.text ≡ record { steps = steps_of p; end = end }) × AppendsPrefix (end_answer end) out.old out.new)

-- nothing of the script has come
pub record IsFirst (s : Dialogue) : Type 0 where
  pub reader : s.reader ≡ record { text = []; forms = []; over = false }
  pub taken : s.taken ≡ 0
  pub last : s.last ≡ None
  pub tally : s.tally ≡ record { sat = 0; unsat = 0; unknown = 0 }
