-- What is known after the entries of the first checks.
use Rattle.std.specs.Prelude.{◌≡◌, ◌⊎◌, ℕ, ◌+◌, ◌≤◌, Bool, true, false, List, [], ◌++◌, length, take, map, Option, Some, None}
use Rattle.ffc_cert.specs.declared.entries.Numbered.{Numbered}
use Rattle.ffc_cert.specs.declared.entries.CertFault.{CertFault}
use Rattle.ffc_cert.specs.Certificate.{Certificate, next_entry_of}
use Rattle.ffc_cert.specs.Reading.{reading_of}
use Rattle.ffc_check.specs.Judged.{judged_check}
use Rattle.ffc_smt.specs.Terms.{Name}
use Rattle.ffc_smt.specs.Scripts.{reads}
use Rattle.ffc_smt.specs.TableChecks.{TableCheck, table_checks}
use Rattle.ffc_rules.specs.Entries.{NodeCheck, Broken, limits, entry_fault}
use Rattle.ffc_rules.specs.Judging as judging
use Rattle.ffc_rules.specs.Judging.{Counts, Format, Rule, counts_of, first_broken, judge}
use Rattle.ffc_verify.specs.declared.entries.NextEntry.TheVariants as next
use Rattle.ffc_verify.specs.declared.judge.Beside.{Beside}
use Rattle.ffc_verify.specs.declared.verdicts.Tally.{Tally}
use Rattle.ffc_verify.specs.declared.verdicts.Refusal.{Refusal}
use Rattle.ffc_verify.specs.declared.verdicts.Cause.{Cause}
use Rattle.ffc_verify.specs.declared.verdicts.Cause.TheVariants as cause
use Rattle.ffc_verify.specs.declared.verdicts.Verdict.{Verdict}
use Rattle.ffc_verify.specs.declared.verdicts.Verdict.TheVariants as verdict
use Rattle.ffc_verify.specs.Due.{core_text, cores_text, entries_for}
use Rattle.ffc_verify.specs.Reading.{IsOpen, IsNext}

-- the counts of a tally
abbrev pub counts_in : Tally → Counts
counts_in t = record { sat = t.sat; unsat = t.unsat; unknown = t.unknown }

-- the cause that is meant
abbrev pub cause_of : Cause → judging.Cause
cause_of (cause.Format code) = Format code
cause_of (cause.Rule rule) = Rule rule

-- the entries that a reader has given
abbrev pub entries_given : Certificate → List Numbered
entries_given c = take c.given (reading_of c.bits c.wanted c.text).entries

-- Each of these checks has its entry, no entry breaks a rule, and the tally is of them.
pub record AreJudged (cores : Bool) (checks : List TableCheck) (c : Certificate) (t : Tally) : Type 0 where
  pub ready : IsOpen c
  pub count : c.given ≡ length checks
  pub within : c.given ≤ length (reading_of c.bits c.wanted c.text).entries
  pub kept : first_broken limits (map judging.node_check checks) (entries_given c) ≡ None
  pub all : t.sat + t.unsat + t.unknown ≡ c.given
  pub counts : counts_of (entries_given c) ≡ counts_in t
  pub lines : t.cores.items ≡ cores_text cores checks (entries_given c)

-- the verdict on a certificate for a script
abbrev pub IsVerdict : Bool → Bool → List ℕ → List ℕ → Verdict → Type 0
IsVerdict bits cores script certificate (verdict.Accepted t) =
    (judge bits script certificate ≡ judging.Accepted (counts_in t)) × (t.cores.items ≡ cores_text cores (table_checks (reads script).steps) (entries_for bits script certificate))
IsVerdict bits cores script certificate (verdict.Refused r) = judge bits script certificate ≡ judging.Refused r.entry r.line (cause_of r.cause)

-- the lines that an entry adds
abbrev pub cores_after : Bool → List (Option Name) → ℕ → Numbered → List ℕ
cores_after false names count e = []
cores_after true names count e = core_text names count e.number e.entry

-- the refusal names the line and the rule that an entry breaks
abbrev pub IsBrokenBy : NodeCheck → Numbered → Refusal → Type 0
IsBrokenBy c e r = (broken : Broken) × (entry_fault c e.entry e.first_line ≡ Some broken) × (r ≡ record { entry = e.number; line = broken.line; cause = cause.Rule broken.rule })

abbrev pub refusal_for : CertFault → Refusal
refusal_for f = record { entry = f.entry; line = f.line; cause = cause.Format f.code }

-- The entry breaks no rule, and the tally is with it.
pub record TakesUp (b : Beside) (entry : Numbered) (before after : Tally) : Type 0 where
  pub kept : entry_fault (judged_check b.check) entry.entry entry.first_line ≡ None
  pub counts : counts_in after ≡ judging.counted entry.entry (counts_in before)
  pub all : after.sat + after.unsat + after.unknown ≡ before.sat + before.unsat + before.unknown + 1
  pub lines : after.cores.items ≡ before.cores.items ++ cores_after b.cores b.names.now (length b.check.in_force.now) entry

-- The next entry was read, breaks no rule, and was taken up.
pub record IsTakenUp (b : Beside) (old new : Certificate) (before after : Tally) : Type 0 where
  pub entry : Numbered
  pub due : next_entry_of old.bits old.wanted new.text old.given ≡ Some entry
  pub given : new ≡ record old { text = new.text; given = old.given + 1 }
  pub takes : TakesUp b entry before after

-- the form of what follows is at fault
abbrev pub IsFormRefused : Certificate → Certificate → Option (List ℕ) → Refusal → Type 0
IsFormRefused old new left r = (f : CertFault) × IsNext old new left (next.Fault f) × (r ≡ refusal_for f)

-- the next entry breaks a rule of this check
pub record IsRuleRefused (c : NodeCheck) (old new : Certificate) (r : Refusal) : Type 0 where
  pub entry : Numbered
  pub due : next_entry_of old.bits old.wanted new.text old.given ≡ Some entry
  pub broken : IsBrokenBy c entry r

abbrev pub IsRefusedFor : NodeCheck → Certificate → Certificate → Option (List ℕ) → Refusal → Type 0
IsRefusedFor c old new left r = IsRuleRefused c old new r ⊎ IsFormRefused old new left r

-- the verdict after the last entry
abbrev pub EndsAsVerdict : Certificate → Certificate → Option (List ℕ) → Tally → Verdict → Type 0
EndsAsVerdict old new left tally (verdict.Accepted t) = (t ≡ tally) × IsNext old new left next.Complete
EndsAsVerdict old new left tally (verdict.Refused r) = IsFormRefused old new left r
