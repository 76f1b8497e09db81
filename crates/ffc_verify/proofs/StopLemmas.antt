-- Runs that have no answer, and the statuses of those that have one.
use Rattle.std.proofs.Common.{◌≡◌, ◌⊎◌, inl, inr, ℕ, Bool, List, Some, None, Option, refl, sym, subst}
use Rattle.std.specs.Option.{IfSome}
use Rattle.ffc_verify.specs.declared.verify.AnswerStop.{AnswerStop}
use Rattle.ffc_verify.specs.declared.verify.AnswerStop.TheVariants as stops
use Rattle.ffc_smt.specs.Scripts.{End, Done, reads}
use Rattle.ffc_verify.specs.declared.verify.CheckStatus.{CheckStatus}
use Rattle.ffc_verify.specs.declared.verify.CheckStatus.TheVariants as status
use Rattle.ffc_verify.specs.declared.verify.Ending.{Ending}
use Rattle.ffc_verify.specs.declared.verify.Ending.TheVariants as ending
use Rattle.ffc_verify.specs.declared.verify.Answer.{Answer}
use Rattle.ffc_verify.specs.Due.{due}
use Rattle.ffc_verify.specs.Status.{IsLeft, SaysOfScript}
use Rattle.ffc_verify.specs.Ending.{status_of, status_at, EndedAs, IsEndedAs, EndsWith}
use Rattle.ffc_verify.proofs.DueLemmas.{left_same, left_nothing}

-- Runs without an answer

status_quiet : (stop : AnswerStop) → (status_at stop ≡ status.Usage) ⊎ ((status_at stop ≡ status.ReadFault) ⊎ ((status_at stop ≡ status.CertFault) ⊎ (status_at stop ≡ status.Memory)))
status_quiet stops.ReadFault = inr (inl refl)
status_quiet stops.CertFault = inr (inr (inl refl))
status_quiet stops.Memory = inr (inr (inr refl))

pub left_without : (stop : AnswerStop) (s : CheckStatus) (bits cores : Bool) (left contents out : Option (List ℕ)) → s ≡ status_at stop → IfSome left (λ bytes. IfSome contents (λ certificate. IsLeft s (due bits cores bytes certificate) out out))
left_without stop s bits cores left contents out e =
    subst (λ x. IfSome left (λ bytes. IfSome contents (λ certificate. IsLeft x (due bits cores bytes certificate) out out))) (sym e)
    (left_same (status_at stop) bits cores left contents out (λ d. left_nothing (status_at stop) (status_quiet stop) out d))

pub if_any : (left : Option (List ℕ)) (P : List ℕ → Type 0) → ((bytes : List ℕ) → P bytes) → IfSome left P
if_any None P h = tt
if_any (Some bytes) P h = h bytes

pub says_without : (stop : AnswerStop) (s : CheckStatus) (left out : Option (List ℕ)) → s ≡ status_at stop → (stop ≡ stops.CertFault → IfSome left (λ bytes. (reads bytes).end ≡ Done)) → IfSome left (λ bytes. SaysOfScript s bytes out out)
says_without stop s left out e h = subst (λ x. IfSome left (λ bytes. SaysOfScript x bytes out out)) (sym e) (by_stop stop h)
  where
    by_stop : (x : AnswerStop) → (x ≡ stops.CertFault → IfSome left (λ bytes. (reads bytes).end ≡ Done)) → IfSome left (λ bytes. SaysOfScript (status_at x) bytes out out)
    by_stop stops.ReadFault h = if_any left (λ bytes. SaysOfScript status.ReadFault bytes out out) (λ bytes. tt)
    by_stop stops.CertFault h = h refl
    by_stop stops.Memory h = if_any left (λ bytes. SaysOfScript status.Memory bytes out out) (λ bytes. tt)

pub which_stop : (stop : AnswerStop) (s : CheckStatus) → s ≡ status_at stop
    → (s ≡ status.ReadFault → stop ≡ stops.ReadFault) × (s ≡ status.CertFault → stop ≡ stops.CertFault) × (s ≡ status.WriteFault → ⊥) × (s ≡ status.Usage → ⊥) × (s ≡ status.ScriptRefused → ⊥)
which_stop stops.ReadFault s e = ((λ h. refl), (λ h. cc), (λ h. cc), (λ h. cc), (λ h. cc))
which_stop stops.CertFault s e = ((λ h. cc), (λ h. refl), (λ h. cc), (λ h. cc), (λ h. cc))
which_stop stops.Memory s e = ((λ h. cc), (λ h. cc), (λ h. cc), (λ h. cc), (λ h. cc))

-- an answer is never one of these statuses
pub which_answer : (a : Answer) (s : CheckStatus) → EndsWith a s → (s ≡ status.ReadFault → ⊥) × (s ≡ status.CertFault → ⊥) × (s ≡ status.Usage → ⊥)
which_answer a s (inl e) = by_ending a.ending e
  where
    by_ending : (x : Ending) → s ≡ status_of x → (s ≡ status.ReadFault → ⊥) × (s ≡ status.CertFault → ⊥) × (s ≡ status.Usage → ⊥)
    by_ending ending.Accepted e = ((λ h. cc), (λ h. cc), (λ h. cc))
    by_ending ending.Refused e = ((λ h. cc), (λ h. cc), (λ h. cc))
    by_ending ending.ScriptRefused e = ((λ h. cc), (λ h. cc), (λ h. cc))
which_answer a s (inr (inl e)) = ((λ h. cc), (λ h. cc), (λ h. cc))
which_answer a s (inr (inr e)) = ((λ h. cc), (λ h. cc), (λ h. cc))

-- a script is refused by its own answer alone
pub refused_ending : (a : Answer) (s : CheckStatus) → EndsWith a s → s ≡ status.ScriptRefused → a.ending ≡ ending.ScriptRefused
refused_ending a s (inl e) h = by_ending a.ending e
  where
    by_ending : (x : Ending) → s ≡ status_of x → x ≡ ending.ScriptRefused
    by_ending ending.Accepted e = cc
    by_ending ending.Refused e = cc
    by_ending ending.ScriptRefused e = refl
refused_ending a s (inr (inl e)) h = cc
refused_ending a s (inr (inr e)) h = cc

-- no script that has no fault is refused
pub never_refused : (a : Answer) (end : End) → IsEndedAs a end → end ≡ Done → a.ending ≡ ending.ScriptRefused → ⊥
never_refused a end h done e = by_fault (subst (λ x. EndedAs x a end) e h)
  where
    by_fault : EndedAs ending.ScriptRefused a end → ⊥
    by_fault (at_line, column, code, is, text) = cc
