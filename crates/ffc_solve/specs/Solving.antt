-- What a run of the solver writes: the certificate and the answers, whole or up to where it stopped.
use Rattle.std.specs.Prelude.{◌≡◌, ℕ, Bool, ◌+◌, ◌<◌, ◌≤◌, ◌⊎◌, List, [], ◌∷◌, ◌++◌, length, take, Option, Some, None, slice_get}
use Rattle.ffc_base.specs.Outside.{Becomes, Appends, AppendsPrefix}
use Rattle.ffc_theory.specs.Bounds.{LeavesBeyondBounds}
use Rattle.ffc_cert.specs.declared.entries.Entry.{Entry}
use Rattle.ffc_cert.specs.declared.entries.Entry.TheVariants.{Sat, UnsatCases, UnsatSteps, Unknown}
use Rattle.ffc_cert.specs.Spelling.{header, entry_text, text_of}
use Rattle.ffc_cert.specs.WellFormed.{IsReadable}
use Rattle.ffc_lex.specs.Reading.{fault_of}
use Rattle.ffc_smt.specs.CommandReading.{limits as reading_limits}
use Rattle.ffc_smt.specs.Scopes.{State}
use Rattle.ffc_smt.specs.Terms.{Exit}
use Rattle.ffc_smt.specs.Scripts.{Step, reads}
use Rattle.ffc_smt.specs.GoingOn.{Going, run_of}
use Rattle.ffc_smt.specs.TableChecks.{TableCheck, table_checks}
use Rattle.ffc_rules.specs.Causes.{Caused}
use Rattle.ffc_rules.specs.Entries.{EntryOk}
use Rattle.ffc_rules.specs.Judging.{node_check}
use Rattle.ffc_trials.specs.Stops.{MayBeDecided}
use Rattle.ffc_trials.specs.Versions.{written_version}
use Rattle.ffc_answer.specs.Answers.{answers, run_answers}
use Rattle.ffc_solve.specs.declared.arguments.Task.{Task}
use Rattle.ffc_solve.specs.Changes.{Change, IsSilent}

-- a verdict is given only on a check that may be decided within the budget
abbrev pub IsAllowed : ℕ → TableCheck → Entry → Type 0
IsAllowed budget check (Sat pairs) = MayBeDecided budget (node_check check)
IsAllowed budget check UnsatCases = MayBeDecided budget (node_check check)
IsAllowed budget check (UnsatSteps lines) = MayBeDecided budget (node_check check)
IsAllowed budget check (Unknown cause) = Unit {0}

-- The entry is readable and obeys the rules for its check; where it leaves the check undecided, its cause is so. A check that a
-- bound speaks of is not left undecided because the budget is spent.
pub record IsRight (task : Task) (check : TableCheck) (entry : Entry) : Type 0 where
  pub readable : IsReadable (written_version task.bits) entry
  pub right : EntryOk (node_check check) entry
  pub caused : Caused task.steps (node_check check) entry
  pub allowed : IsAllowed task.steps check entry
  pub beyond : LeavesBeyondBounds task.steps (node_check check) entry

-- entries of the first checks
abbrev pub AreEntries : Task → List TableCheck → List Entry → Type 0
AreEntries task checks [] = Unit {0}
AreEntries task [] (entry ∷ entries) = ⊥
AreEntries task (check ∷ checks) (entry ∷ entries) = IsRight task check entry × AreEntries task checks entries

-- The certificate has an entry for each check of the script, and all of it is answered; of a generated script the size is given.
pub record IsWhole (task : Task) (make : Option ℕ) (script : List ℕ) (cert out : Change) : Type 0 where
  pub entries : List Entry
  pub each : AreEntries task (table_checks (reads script).steps) entries
  pub all : length entries ≡ length (table_checks (reads script).steps)
  pub certificate : Becomes (text_of (written_version task.bits) entries) cert.old cert.new
  pub answered : Appends (run_answers make (reads script) entries) out.old out.new

-- a front of the next entry, which is not whole and obeys the rules for its check
pub record IsCutEntry (task : Task) (checks : List TableCheck) (entries : List Entry) (part : List ℕ) : Type 0 where
  pub check : TableCheck
  pub at : slice_get checks (length entries) ≡ Some check
  pub entry : Entry
  pub right : IsRight task check entry
  pub size : ℕ
  pub short : size < length (entry_text entry)
  pub is : part ≡ take size (entry_text entry)

-- what comes after the whole entries: nothing, or a front of one more
abbrev pub IsRest : Task → List TableCheck → List Entry → List ℕ → Type 0
IsRest task checks entries part = (part ≡ []) ⊎ IsCutEntry task checks entries part

-- a front of the first line, and no entries; or the entries, and what comes after them
abbrev pub IsCertificatePart : Task → List TableCheck → List Entry → List ℕ → Type 0
IsCertificatePart task checks entries text =
    ((entries ≡ []) × ((n : ℕ) × (text ≡ take n (header (written_version task.bits)))))
    ⊎ ((part : List ℕ) × (text ≡ text_of (written_version task.bits) entries ++ part) × IsRest task checks entries part)

-- The certificate has the entries of the first checks, and no more is answered than these entries say: each verdict that
-- was written has its whole entry in the certificate.
pub record IsBegun (task : Task) (make : Option ℕ) (script : List ℕ) (cert out : Change) : Type 0 where
  pub entries : List Entry
  pub each : AreEntries task (table_checks (reads script).steps) entries
  pub text : List ℕ
  pub part : IsCertificatePart task (table_checks (reads script).steps) entries text
  pub certificate : Becomes text cert.old cert.new
  pub answered : AppendsPrefix (run_answers make (reads script) entries) out.old out.new

-- What a run that stopped leaves: all as it was, or a certificate that is begun.
abbrev pub IsStopped : Task → Option ℕ → List ℕ → Change → Change → Type 0
IsStopped task make script cert out = IsSilent cert out ⊎ IsBegun task make script cert out

-- What a run leaves where reading failed after this text: just the commands that are whole in it are answered.
pub record IsPaused (task : Task) (text : List ℕ) (cert out : Change) : Type 0 where
  pub steps : List Step
  pub state : State
  pub run : run_of reading_limits text ≡ Going steps state
  pub sound : fault_of text ≡ None
  pub entries : List Entry
  pub each : AreEntries task (table_checks steps) entries
  pub all : length entries ≡ length (table_checks steps)
  pub certificate : Becomes (text_of (written_version task.bits) entries) cert.old cert.new
  pub answered : Appends (answers steps entries) out.old out.new

-- how much of a script was taken
pub record IsTaken (text script : List ℕ) (new : Option (List ℕ)) : Type 0 where
  pub rest : List ℕ
  pub split : script ≡ text ++ rest
  pub left : new ≡ Some rest
  pub few : length text ≤ 67108865

-- the commands that are whole in the text end with `exit`
pub record HasExit (text : List ℕ) : Type 0 where
  pub before : List Step
  pub exit : Step
  pub steps : (reads text).steps ≡ before ++ exit ∷ []
  pub is : exit.command ≡ Exit

-- no form that is whole in the text is `exit` or at fault, and no byte of it is at fault
pub record HasNoEnd (text : List ℕ) : Type 0 where
  pub steps : List Step
  pub state : State
  pub run : run_of reading_limits text ≡ Going steps state
  pub sound : fault_of text ≡ None

-- What was taken: at most 4,095 bytes after the `)` of `exit`, and after the byte with which a fault is certain.
pub record EndsSoon (text : List ℕ) : Type 0 where
  pub after_exit : (n : ℕ) → HasExit (take n text) → length text ≤ n + 4095
  pub after_fault : (n : ℕ) → (HasNoEnd (take n text) → ⊥) → length text ≤ n + 4095

-- These commands are answered: the certificate has its first line and the entries of all their checks, and the output grew by all
-- answers to them; more may follow in both.
pub record AreAnswered (bits : Bool) (steps : List Step) (cert out : Change) : Type 0 where
  pub entries : List Entry
  pub all : length entries ≡ length (table_checks steps)
  pub more_entries : List ℕ
  pub certificate : Becomes (text_of (written_version bits) entries ++ more_entries) cert.old cert.new
  pub more_answers : List ℕ
  pub answered : Appends (answers steps entries ++ more_answers) out.old out.new

-- What is answered where this was taken: each command after whose `)` more than 4,095 bytes were taken.
abbrev pub AnswersSoon : Bool → List ℕ → Change → Change → Type 0
AnswersSoon bits text cert out = (n : ℕ) → n + 4095 < length text → AreAnswered bits (reads (take n text)).steps cert out
