-- Answers, and the statuses that come with them.
use Rattle.std.specs.Prelude.{◌≡◌, ◌⊎◌, ℕ, ◌++◌}
use Rattle.ffc_smt.specs.Scripts.{End, Done, AtFault}
use Rattle.ffc_verify.specs.declared.verdicts.Verdict.{Verdict}
use Rattle.ffc_verify.specs.declared.verdicts.Verdict.TheVariants as verdict
use Rattle.ffc_verify.specs.declared.verify.CheckStatus.{CheckStatus}
use Rattle.ffc_verify.specs.declared.verify.CheckStatus.TheVariants as status
use Rattle.ffc_verify.specs.declared.verify.Ending.{Ending}
use Rattle.ffc_verify.specs.declared.verify.Ending.TheVariants as ending
use Rattle.ffc_verify.specs.declared.verify.Answer.{Answer}
use Rattle.ffc_verify.specs.declared.verify.AnswerStop.{AnswerStop}
use Rattle.ffc_verify.specs.declared.verify.AnswerStop.TheVariants as stop
use Rattle.ffc_verify.specs.Texts.{accepted_line, fault_line, refused_line}
use Rattle.ffc_verify.specs.Due.{Due}
use Rattle.ffc_verify.specs.Judged.{cause_of, counts_in}

abbrev pub status_of : Ending → CheckStatus
status_of ending.Accepted = status.Accepted
status_of ending.Refused = status.Refused
status_of ending.ScriptRefused = status.ScriptRefused

abbrev pub status_at : AnswerStop → CheckStatus
status_at stop.ReadFault = status.ReadFault
status_at stop.CertFault = status.CertFault
status_at stop.Memory = status.Memory

abbrev pub due_of : Answer → Due
due_of a = record { status = status_of a.ending; text = a.text.items }

abbrev pub verdict_due : Verdict → Due
verdict_due (verdict.Accepted t) = record { status = status.Accepted; text = t.cores.items ++ accepted_line (counts_in t) }
verdict_due (verdict.Refused r) = record { status = status.Refused; text = refused_line r.entry r.line (cause_of r.cause) }

abbrev pub EndedAs : Ending → Answer → End → Type 0
EndedAs ending.Accepted a end = end ≡ Done
EndedAs ending.Refused a end = end ≡ Done
EndedAs ending.ScriptRefused a end = (at_line : ℕ) × (column : ℕ) × (code : ℕ) × (end ≡ AtFault at_line column code) × (a.text.items ≡ fault_line at_line column code)

-- the answer belongs to this end of a script
abbrev pub IsEndedAs : Answer → End → Type 0
IsEndedAs a end = EndedAs a.ending a end

-- the status of an answer, unless it could not be written
abbrev pub EndsWith : Answer → CheckStatus → Type 0
EndsWith a s = (s ≡ status_of a.ending) ⊎ ((s ≡ status.WriteFault) ⊎ (s ≡ status.Memory))
