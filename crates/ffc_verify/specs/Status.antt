-- How a run of the checker ends: its statuses, and what each of them leaves.
use Rattle.std.specs.Prelude.{Bool, ◌≡◌, ◌⊎◌, ℕ, ◌<◌, ◌≤◌, List, [], ◌++◌, length, Option, None}
use Rattle.ffc_base.specs.Outside.{Appends, AppendsPrefix}
use Rattle.ffc_smt.specs.Scripts.{Done, AtFault, reads}
use Rattle.ffc_smt.specs.TableChecks.{TableCheck, table_checks}
use Rattle.std.specs.Prelude.{Some, slice_get}
use Rattle.ffc_cert.specs.Reading.{reading_of, stop_fault}
use Rattle.ffc_rules.specs.Entries.{limits}
use Rattle.ffc_rules.specs.Judging.{checks_in, first_broken}
use Rattle.ffc_rules.specs.Laws.{HasEntry}
use Rattle.ffc_verify.specs.declared.verify.CheckStatus.{CheckStatus}
use Rattle.ffc_verify.specs.declared.verify.CheckStatus.TheVariants.{Accepted, Refused, Usage, ScriptRefused, ReadFault, CertFault, WriteFault, Memory}
use Rattle.ffc_verify.specs.Texts.{fault_line}
use Rattle.ffc_verify.specs.Due.{Due}

-- the number that the program ends with
abbrev pub code_of : CheckStatus → ℕ
code_of Accepted = 0
code_of Refused = 1
code_of Usage = 2
code_of ScriptRefused = 3
code_of ReadFault = 4
code_of CertFault = 5
code_of WriteFault = 6
code_of Memory = 7

-- the status is the one that is due, and all of its text was written
abbrev pub IsAnswered : CheckStatus → Due → Option (List ℕ) → Option (List ℕ) → Type 0
IsAnswered status d out_old out_new = (d.status ≡ status) × Appends d.text out_old out_new

-- What a status says of the output, before and after the run, where this is due.
abbrev pub IsLeft : CheckStatus → Due → Option (List ℕ) → Option (List ℕ) → Type 0
IsLeft Accepted d out_old out_new = IsAnswered Accepted d out_old out_new
IsLeft Refused d out_old out_new = IsAnswered Refused d out_old out_new
IsLeft ScriptRefused d out_old out_new = IsAnswered ScriptRefused d out_old out_new
IsLeft WriteFault d out_old out_new = AppendsPrefix d.text out_old out_new
IsLeft Memory d out_old out_new = AppendsPrefix d.text out_old out_new
IsLeft Usage d out_old out_new = out_new ≡ out_old
IsLeft ReadFault d out_old out_new = out_new ≡ out_old
IsLeft CertFault d out_old out_new = out_new ≡ out_old

-- the script is at this fault, and its line was written
pub record IsAtFault (script : List ℕ) (out_old out_new : Option (List ℕ)) : Type 0 where
  pub at_line : ℕ
  pub column : ℕ
  pub code : ℕ
  pub end : (reads script).end ≡ AtFault at_line column code
  pub written : Appends (fault_line at_line column code) out_old out_new

-- What a status says of the script alone: the certificate is opened only where the script has no fault.
abbrev pub SaysOfScript : CheckStatus → List ℕ → Option (List ℕ) → Option (List ℕ) → Type 0
SaysOfScript Accepted script out_old out_new = (reads script).end ≡ Done
SaysOfScript Refused script out_old out_new = (reads script).end ≡ Done
SaysOfScript CertFault script out_old out_new = (reads script).end ≡ Done
SaysOfScript ScriptRefused script out_old out_new = IsAtFault script out_old out_new
SaysOfScript _ script out_old out_new = Unit {0}

-- how much of a script was taken: a front of it, and the rest is left
pub record TakesFront (script : List ℕ) (new : Option (List ℕ)) : Type 0 where
  pub text : List ℕ
  pub rest : List ℕ
  pub split : script ≡ text ++ rest
  pub left : new ≡ Some rest
  pub few : length text ≤ 67108865

-- A front of a certificate is not enough for the judgement. A line is judged once it is whole or has too many bytes, and a byte
-- after the entries of all checks at once: none in the front is at fault. And no entry that is whole in it breaks a rule of its
-- check. So an entry is not whole yet, or all are, and it is not known yet whether the text ends here.
pub record IsNotEnough (bits : Bool) (script front : List ℕ) : Type 0 where
  pub form : stop_fault (reading_of bits (length (checks_in script)) front).end ≡ None
  pub rules : first_broken limits (checks_in script) (reading_of bits (length (checks_in script)) front).entries ≡ None

-- without its last 4,096 bytes, or fewer, what was read is not enough
pub record IsLastRead (bits : Bool) (script text : List ℕ) : Type 0 where
  pub front : List ℕ
  pub piece : List ℕ
  pub split : text ≡ front ++ piece
  pub some : 0 < length piece
  pub few : length piece ≤ 4096
  pub more : IsNotEnough bits script front

-- No more of a certificate was read than was needed: a front of it, which is empty, or was not enough without its last read. The
-- rest is left.
pub record ReadsAsNeeded (bits : Bool) (script certificate : List ℕ) (new : Option (List ℕ)) : Type 0 where
  pub text : List ℕ
  pub rest : List ℕ
  pub split : certificate ≡ text ++ rest
  pub left : new ≡ Some rest
  pub last : (text ≡ []) ⊎ IsLastRead bits script text

-- What a status says of what is left of the certificate, before and after the run: where it was opened, no more of it was
-- read than was needed.
abbrev pub IsReadAt : CheckStatus → Bool → List ℕ → List ℕ → Option (List ℕ) → Option (List ℕ) → Type 0
IsReadAt Accepted bits script certificate old new = ReadsAsNeeded bits script certificate new
IsReadAt Refused bits script certificate old new = ReadsAsNeeded bits script certificate new
IsReadAt CertFault bits script certificate old new = (new ≡ old) ⊎ ReadsAsNeeded bits script certificate new
IsReadAt WriteFault bits script certificate old new = (new ≡ old) ⊎ ReadsAsNeeded bits script certificate new
IsReadAt Memory bits script certificate old new = (new ≡ old) ⊎ ReadsAsNeeded bits script certificate new
IsReadAt Usage bits script certificate old new = new ≡ old
IsReadAt ScriptRefused bits script certificate old new = new ≡ old
IsReadAt ReadFault bits script certificate old new = new ≡ old

-- each check of the script has an entry in the certificate, and the entry is true of it
abbrev pub AllHaveEntries : Bool → List ℕ → List ℕ → Type 0
AllHaveEntries bits script certificate = (k : ℕ) (c : TableCheck) → slice_get (table_checks (reads script).steps) k ≡ Some c → HasEntry bits script certificate k c
