-- What is due, from the script's end and the verdict on the certificate.
use Rattle.std.proofs.Common.{◌≡◌, ◌⊎◌, inl, inr, ℕ, ◌≤◌, Bool, List, ◌++◌, length, take, map, Some, None, Option, refl, sym, ap, ◌∙◌, subst, arith, append-nil, Result, Ok, Err, IfOk}
use Rattle.std.specs.Option.{IfSome}
use Rattle.ffc_base.specs.Outside.{Appends, AppendsPrefix, Rose}
use Rattle.ffc_cert.specs.Reading.{reading_of}
use Rattle.ffc_smt.specs.Scripts.{Script, End, Done, AtFault, reads}
use Rattle.ffc_smt.specs.TableChecks.{table_checks}
use Rattle.ffc_rules.specs.Judging as judging
use Rattle.ffc_rules.specs.Judging.{Judgement, judge}
use Rattle.ffc_rules.specs.Entries.{limits}
use Rattle.ffc_rules.proofs.ScriptLemmas.{accepted_sound}
use Rattle.ffc_script.proofs.LimitLemmas.{long_text_cut}
use Rattle.ffc_verify.specs.declared.verdicts.Verdict.{Verdict}
use Rattle.ffc_verify.specs.declared.verdicts.Verdict.TheVariants as verdict
use Rattle.ffc_verify.specs.declared.verify.CheckStatus.{CheckStatus}
use Rattle.ffc_verify.specs.declared.verify.CheckStatus.TheVariants as status
use Rattle.ffc_verify.specs.declared.verify.Ending.{Ending}
use Rattle.ffc_verify.specs.declared.verify.Ending.TheVariants as ending
use Rattle.ffc_verify.specs.declared.verify.Answer.{Answer}
use Rattle.ffc_verify.specs.Texts.{accepted_line, fault_line}
use Rattle.ffc_verify.specs.Due.{Due, cores_text, entries_for, judgement_due, due_at, due}
use Rattle.ffc_verify.specs.Status.{IsLeft, SaysOfScript, AllHaveEntries}
use Rattle.ffc_verify.specs.Ending.{status_of, due_of, verdict_due, EndedAs, IsEndedAs, EndsWith}
use Rattle.ffc_verify.specs.Judged.{counts_in, IsVerdict}

-- what is due looks at what the script says alone
abbrev due_by : Bool → Bool → List ℕ → Script → Due
due_by bits cores certificate s = elim s.end as (λ _. Due) [
  | AtFault at_line column code ↦ record { status = status.ScriptRefused; text = fault_line at_line column code }
  | Done ↦ judgement_due (cores_text cores (table_checks s.steps) (reading_of bits (length (table_checks s.steps)) certificate).entries) (judging.judge_checks bits limits (map judging.node_check (table_checks s.steps)) certificate)
]

due_is : (bits cores : Bool) (script certificate : List ℕ) → due bits cores script certificate ≡ due_by bits cores certificate (reads script)
unfolding due
due_is bits cores script certificate = by_end (reads script).end
  where
    by_end : (e : End) → due_at e bits cores script certificate ≡ (elim e as (λ _. Due) [
      | AtFault at_line column code ↦ record { status = status.ScriptRefused; text = fault_line at_line column code }
      | Done ↦ judgement_due (cores_text cores (table_checks (reads script).steps) (entries_for bits script certificate)) (judge bits script certificate)
    ])
    by_end Done = refl
    by_end (AtFault at_line column code) = refl

pub due_same : (bits cores : Bool) (one two certificate : List ℕ) → reads one ≡ reads two → due bits cores one certificate ≡ due bits cores two certificate
due_same bits cores one two certificate e = due_is bits cores one certificate ∙ ap (due_by bits cores certificate) e ∙ sym (due_is bits cores two certificate)

pub reads_cut : (text bytes : List ℕ) → text ≡ take 67108865 bytes → reads text ≡ reads bytes
reads_cut text bytes e = ap reads e ∙ sym (long_text_cut bytes)

-- the verdict is what is due
pub verdict_is_due : (bits cores : Bool) (script certificate : List ℕ) (v : Verdict) → (reads script).end ≡ Done → IsVerdict bits cores script certificate v → verdict_due v ≡ due bits cores script certificate
unfolding due
verdict_is_due bits cores script certificate (verdict.Accepted t) done h =
    let here : due bits cores script certificate ≡ due_at Done bits cores script certificate = ap (λ e. due_at e bits cores script certificate) done in
    let text : verdict_due (verdict.Accepted t) ≡ judgement_due (cores_text cores (table_checks (reads script).steps) (entries_for bits script certificate)) (judging.Accepted (counts_in t)) =
    ap (λ (x : List ℕ). record { status = status.Accepted; text = x ++ accepted_line (counts_in t) }) h.1 in
    text ∙ ap (judgement_due (cores_text cores (table_checks (reads script).steps) (entries_for bits script certificate))) (sym h.0) ∙ sym here
verdict_is_due bits cores script certificate (verdict.Refused r) done h =
    let here : due bits cores script certificate ≡ due_at Done bits cores script certificate = ap (λ e. due_at e bits cores script certificate) done in
    ap (judgement_due (cores_text cores (table_checks (reads script).steps) (entries_for bits script certificate))) (sym h) ∙ sym here

pub fault_is_due : (bits cores : Bool) (script certificate : List ℕ) (at_line column code : ℕ) → (reads script).end ≡ AtFault at_line column code
    → record { status = status.ScriptRefused; text = fault_line at_line column code } ≡ due bits cores script certificate
unfolding due
fault_is_due bits cores script certificate at_line column code e = sym (ap (λ x. due_at x bits cores script certificate) e)

-- an accepted certificate

due_accepted : (e : End) (cores : List ℕ) (j : Judgement) (script certificate : List ℕ) → (elim e as (λ _. Due) [
  | AtFault at_line column code ↦ record { status = status.ScriptRefused; text = fault_line at_line column code }
  | Done ↦ judgement_due cores j
]).status ≡ status.Accepted → (e ≡ Done) × ((n : judging.Counts) × (j ≡ judging.Accepted n))
due_accepted Done cores (judging.Accepted n) script certificate h = (refl, (n, refl))
due_accepted Done cores (judging.Refused e l c) script certificate h = cc
due_accepted (AtFault l c k) cores j script certificate h = cc

pub accepted_entries : (bits cores : Bool) (script certificate : List ℕ) → (due bits cores script certificate).status ≡ status.Accepted → AllHaveEntries bits script certificate
accepted_entries bits cores script certificate h =
    let both = due_accepted (reads script).end (cores_text cores (table_checks (reads script).steps) (entries_for bits script certificate)) (judge bits script certificate) script certificate
    (ap (λ d. d.status) (sym (due_is bits cores script certificate)) ∙ h) in
    λ k c at. accepted_sound bits script certificate (record { done = both.0; counts = both.1.0; accepted = both.1.1 }) k c at

-- Answers

pub ended_at_fault : (a : Answer) (end : End) (at_line column code : ℕ) → due_of a ≡ record { status = status.ScriptRefused; text = fault_line at_line column code } → end ≡ AtFault at_line column code → IsEndedAs a end
ended_at_fault a end at_line column code e is = by_ending a.ending (ap (λ d. d.status) e)
  where
    by_ending : (x : Ending) → status_of x ≡ status.ScriptRefused → EndedAs x a end
    by_ending ending.Accepted h = cc
    by_ending ending.Refused h = cc
    by_ending ending.ScriptRefused h = (at_line, column, code, is, ap (λ d. d.text) e)

-- the contents that are stated are those that are left once they are opened
pub opened_due : (bits cores : Bool) (script : List ℕ) (contents left : Option (List ℕ)) (v : Verdict) (a : Answer) → (reads script).end ≡ Done → IfSome contents (λ bytes. left ≡ Some bytes)
    → IfSome left (λ certificate. IsVerdict bits cores script certificate v) → due_of a ≡ verdict_due v → IfSome contents (λ certificate. due_of a ≡ due bits cores script certificate)
opened_due bits cores script None left v a done opened judged e = tt
opened_due bits cores script (Some bytes) left v a done opened judged e =
    let is : IsVerdict bits cores script bytes v = subst (λ o. IfSome o (λ certificate. IsVerdict bits cores script certificate v)) opened judged in
    e ∙ verdict_is_due bits cores script bytes v done is

-- the script as it was read
pub read_due : (bits cores : Bool) (text : List ℕ) (left contents : Option (List ℕ)) (a : Answer) → IfSome left (λ bytes. text ≡ take 67108865 bytes) → IfSome contents (λ certificate. due_of a ≡ due bits cores text certificate)
    → IfSome left (λ bytes. IfSome contents (λ certificate. due_of a ≡ due bits cores bytes certificate))
read_due bits cores text None contents a is h = tt
read_due bits cores text (Some bytes) None a is h = tt
read_due bits cores text (Some bytes) (Some certificate) a is h = h ∙ due_same bits cores text bytes certificate (reads_cut text bytes is)

pub read_ended : (text : List ℕ) (left : Option (List ℕ)) (a : Answer) → IfSome left (λ bytes. text ≡ take 67108865 bytes) → IsEndedAs a (reads text).end → IfSome left (λ bytes. IsEndedAs a (reads bytes).end)
read_ended text None a is h = tt
read_ended text (Some bytes) a is h = subst (λ s. IsEndedAs a s.end) (reads_cut text bytes is) h

pub read_done : (text : List ℕ) (left : Option (List ℕ)) → IfSome left (λ bytes. text ≡ take 67108865 bytes) → (reads text).end ≡ Done → IfSome left (λ bytes. (reads bytes).end ≡ Done)
read_done text None is h = tt
read_done text (Some bytes) is h = ap (λ s. s.end) (sym (reads_cut text bytes is)) ∙ h

pub fault_due : (bits cores : Bool) (text : List ℕ) (contents : Option (List ℕ)) (a : Answer) (at_line column code : ℕ) → due_of a ≡ record { status = status.ScriptRefused; text = fault_line at_line column code }
    → (reads text).end ≡ AtFault at_line column code → IfSome contents (λ certificate. due_of a ≡ due bits cores text certificate)
fault_due bits cores text None a at_line column code e is = tt
fault_due bits cores text (Some certificate) a at_line column code e is = e ∙ fault_is_due bits cores text certificate at_line column code is

-- Statuses

pub nothing_written : (text : List ℕ) (held : Option (List ℕ)) → AppendsPrefix text held held
nothing_written text None = tt
nothing_written text (Some held) = (0, omega arith, ap Some (sym (append-nil held)))

-- of an answer
pub left_due : (bits cores : Bool) (left contents : Option (List ℕ)) (a : Answer) (s : CheckStatus) (out_old out_new : Option (List ℕ)) → IfSome left (λ bytes. IfSome contents (λ certificate. due_of a ≡ due bits cores bytes certificate))
    → IsLeft s (due_of a) out_old out_new → IfSome left (λ bytes. IfSome contents (λ certificate. IsLeft s (due bits cores bytes certificate) out_old out_new))
left_due bits cores None contents a s out_old out_new h w = tt
left_due bits cores (Some bytes) None a s out_old out_new h w = tt
left_due bits cores (Some bytes) (Some certificate) a s out_old out_new h w = subst (λ d. IsLeft s d out_old out_new) h w

-- of none
pub left_same : (s : CheckStatus) (bits cores : Bool) (left contents out : Option (List ℕ)) → ((d : Due) → IsLeft s d out out) → IfSome left (λ bytes. IfSome contents (λ certificate. IsLeft s (due bits cores bytes certificate) out out))
left_same s bits cores None contents out h = tt
left_same s bits cores (Some bytes) None out h = tt
left_same s bits cores (Some bytes) (Some certificate) out h = h (due bits cores bytes certificate)

pub left_nothing : (s : CheckStatus) → ((s ≡ status.Usage) ⊎ ((s ≡ status.ReadFault) ⊎ ((s ≡ status.CertFault) ⊎ (s ≡ status.Memory)))) → (out : Option (List ℕ)) (d : Due) → IsLeft s d out out
left_nothing s (inl e) out d = subst (λ x. IsLeft x d out out) (sym e) refl
left_nothing s (inr (inl e)) out d = subst (λ x. IsLeft x d out out) (sym e) refl
left_nothing s (inr (inr (inl e))) out d = subst (λ x. IsLeft x d out out) (sym e) refl
left_nothing s (inr (inr (inr e))) out d = subst (λ x. IsLeft x d out out) (sym e) (nothing_written d.text out)

pub left_accepted : (bits cores : Bool) (left contents : Option (List ℕ)) (s : CheckStatus) (out_old out_new : Option (List ℕ)) → s ≡ status.Accepted → IfSome left (λ bytes. IfSome contents (λ certificate. IsLeft s (due bits cores bytes certificate) out_old out_new))
    → IfSome left (λ bytes. IfSome contents (λ certificate. AllHaveEntries bits bytes certificate))
left_accepted bits cores None contents s out_old out_new e h = tt
left_accepted bits cores (Some bytes) None s out_old out_new e h = tt
left_accepted bits cores (Some bytes) (Some certificate) s out_old out_new e h =
    let is : IsLeft status.Accepted (due bits cores bytes certificate) out_old out_new = subst (λ x. IsLeft x (due bits cores bytes certificate) out_old out_new) e h in
    accepted_entries bits cores bytes certificate is.0

says_ended : (a : Answer) (s : CheckStatus) (bytes : List ℕ) (out_old out_new : Option (List ℕ)) → EndsWith a s → IsLeft s (due_of a) out_old out_new → IsEndedAs a (reads bytes).end → SaysOfScript s bytes out_old out_new
says_ended a s bytes out_old out_new (inl e) w h =
    subst (λ x. SaysOfScript x bytes out_old out_new) (sym e) (by_ending a.ending (subst (λ x. IsLeft x (due_of a) out_old out_new) e w) h)
  where
    by_ending : (x : Ending) → IsLeft (status_of x) (due_of a) out_old out_new → EndedAs x a (reads bytes).end → SaysOfScript (status_of x) bytes out_old out_new
    by_ending ending.Accepted w h = h
    by_ending ending.Refused w h = h
    by_ending ending.ScriptRefused w (at_line, column, code, is, text) = record { at_line = at_line; column = column; code = code; end = is; written = subst (λ t. Appends t out_old out_new) text w.1 }
says_ended a s bytes out_old out_new (inr (inl e)) w h = subst (λ x. SaysOfScript x bytes out_old out_new) (sym e) tt
says_ended a s bytes out_old out_new (inr (inr e)) w h = subst (λ x. SaysOfScript x bytes out_old out_new) (sym e) tt

pub says_answer : (left : Option (List ℕ)) (a : Answer) (s : CheckStatus) (out_old out_new : Option (List ℕ)) → EndsWith a s → IsLeft s (due_of a) out_old out_new → IfSome left (λ bytes. IsEndedAs a (reads bytes).end)
    → IfSome left (λ bytes. SaysOfScript s bytes out_old out_new)
says_answer None a s out_old out_new e w h = tt
says_answer (Some bytes) a s out_old out_new e w h = says_ended a s bytes out_old out_new e w h

-- a count that rose in the second of two calls rose in both
pub rose_later : (a b c : ℕ) → a ≤ b → Rose b c → Rose a c
rose_later a b c le (inl h) = inl (omega arith)
rose_later a b c le (inr h) = inr h

-- Results

pub ok_by : {A S : Type 0} (r : Result A S) (P Q : A → Type 0) → IfOk r P → ((a : A) → P a → Q a) → IfOk r Q
ok_by (Ok a) P Q h f = f a h
ok_by (Err s) P Q h f = tt
