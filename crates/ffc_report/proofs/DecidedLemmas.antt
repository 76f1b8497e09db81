-- What the line of an accepted certificate says.
use Rattle.std.proofs.Common.{◌≡◌, ℕ, Bool, List, [], ◌∷◌, ◌++◌, Option, Some, refl, sym, ap, ◌∙◌, subst, codes, decimal, unwrap_or}
use Rattle.std.specs.Option.{IfSome}
use Rattle.std.proofs.lemmas.List.{append_assoc}
use Rattle.ffc_base.specs.Contents.{Contents, left_of}
use Rattle.ffc_smt.specs.Scripts.{End, Done, AtFault, reads}
use Rattle.ffc_smt.specs.TableChecks.{table_checks}
use Rattle.ffc_rules.specs.Judging.{Judgement, Counts, Accepted, Refused, judge}
use Rattle.ffc_verify.specs.declared.verify.CheckStatus.{CheckStatus}
use Rattle.ffc_verify.specs.declared.verify.CheckStatus.TheVariants as status
use Rattle.ffc_verify.specs.Due.{cores_text, due, due_at, entries_for, judgement_due}
use Rattle.ffc_verify.specs.Status.{AllHaveEntries, IsLeft}
use Rattle.ffc_verify.specs.Texts.{accepted_line}
use Rattle.ffc_report.specs.Decided.{EndsInZero, IsDecided}
use Rattle.ffc_report.proofs.DecimalLemmas.{zero_by_end}

-- the judgement is acceptance, and the text ends with its line
record IsAcceptedWith (j : Judgement) (text : List ℕ) : Type 0 where
  counts : Counts
  accepted : j ≡ Accepted counts
  front : List ℕ
  is : text ≡ front ++ accepted_line counts

judgement_accepts : (cores : List ℕ) (j : Judgement) → (judgement_due cores j).status ≡ status.Accepted → IsAcceptedWith j (judgement_due cores j).text
judgement_accepts cores (Accepted n) h = record { counts = n; accepted = refl; front = cores; is = refl }
judgement_accepts cores (Refused e l c) h = cc

due_accepts : (e : End) (bits cores : Bool) (script certificate : List ℕ) → (due_at e bits cores script certificate).status ≡ status.Accepted
    → IsAcceptedWith (judge bits script certificate) (due_at e bits cores script certificate).text
due_accepts Done bits cores script certificate h =
    judgement_accepts (cores_text cores (table_checks (reads script).steps) (entries_for bits script certificate)) (judge bits script certificate) h
due_accepts (AtFault l c k) bits cores script certificate h = cc

due_is_accepted : (bits cores : Bool) (script certificate : List ℕ) → (due bits cores script certificate).status ≡ status.Accepted
    → IsAcceptedWith (judge bits script certificate) (due bits cores script certificate).text
unfolding due
due_is_accepted bits cores script certificate h = due_accepts (reads script).end bits cores script certificate h

none_unknown : (n : Counts) (front other text : List ℕ) → text ≡ front ++ accepted_line n → text ≡ other ++ (32 ∷ 48 ∷ 10 ∷ []) → n.unknown ≡ 0
none_unknown n front other text is ends =
    let before = codes "accepted " ++ decimal n.sat ++ codes " " ++ decimal n.unsat in
    let parts : front ++ accepted_line n ≡ (front ++ before) ++ (32 ∷ (decimal n.unknown ++ (10 ∷ []))) =
    ap (λ l. front ++ l) (append_assoc (before ++ (32 ∷ [])) (decimal n.unknown) (10 ∷ []) ∙ append_assoc before (32 ∷ []) (decimal n.unknown ++ (10 ∷ [])))
    ∙ sym (append_assoc front before (32 ∷ (decimal n.unknown ++ (10 ∷ [])))) in
    zero_by_end other (front ++ before) n.unknown (sym ends ∙ is ∙ parts)

decided : (bits cores : Bool) (script certificate out : List ℕ) → (due bits cores script certificate).status ≡ status.Accepted → out ≡ (due bits cores script certificate).text
    → AllHaveEntries bits script certificate → EndsInZero out → IsDecided bits script certificate
decided bits cores script certificate out accepted written means ends =
    let with = due_is_accepted bits cores script certificate accepted in
    record {
      means = means;
      counts = with.counts;
      accepted = with.accepted;
      none_unknown = none_unknown with.counts with.front ends.0 out (written ∙ with.is) ends.1;
    }

answered : (bits cores : Bool) (script certificate out : List ℕ) → IsLeft status.Accepted (due bits cores script certificate) (Some []) (Some out)
    → AllHaveEntries bits script certificate → EndsInZero out → IsDecided bits script certificate
answered bits cores script certificate out left means ends =
    decided bits cores script certificate out left.0 (ap (λ (o : Option (List ℕ)). unwrap_or o []) left.1) means ends

-- what the checker leaves of objects in memory, at a status
abbrev IsRun : Bool → Bool → CheckStatus → Contents → Contents → List ℕ → List ℕ → Type 0
IsRun bits cores s script cert before out =
    IfSome (Some (left_of script)) (λ bytes. IfSome (Some cert.bytes) (λ certificate. IsLeft s (due bits cores bytes certificate) (Some before) (Some out)))

abbrev Means : Bool → CheckStatus → Contents → Contents → Type 0
Means bits s script cert = s ≡ status.Accepted → IfSome (Some (left_of script)) (λ bytes. IfSome (Some cert.bytes) (λ certificate. AllHaveEntries bits bytes certificate))

of_bytes : (bits cores : Bool) (s : CheckStatus) (script certificate out : List ℕ) → s ≡ status.Accepted
    → IsRun bits cores s (record { bytes = script; position = 0 }) (record { bytes = certificate; position = 0 }) [] out
    → Means bits s (record { bytes = script; position = 0 }) (record { bytes = certificate; position = 0 }) → EndsInZero out → IsDecided bits script certificate
of_bytes bits cores s script certificate out accepted run means ends =
    answered bits cores script certificate out (subst (λ (t : CheckStatus). IsLeft t (due bits cores script certificate) (Some []) (Some out)) accepted run) (means accepted) ends

pub decided_in_memory : (bits cores : Bool) (s : CheckStatus) (script cert : Contents) (script_bytes cert_bytes before out line : List ℕ)
    → script ≡ record { bytes = script_bytes; position = 0 } → cert ≡ record { bytes = cert_bytes; position = 0 } → before ≡ [] → line ≡ out
    → IsRun bits cores s script cert before out → Means bits s script cert → s ≡ status.Accepted → EndsInZero line → IsDecided bits script_bytes cert_bytes
decided_in_memory bits cores s script cert script_bytes cert_bytes before out line is_script is_cert none is_line run means accepted ends =
    let run_script = subst (λ (x : Contents). IsRun bits cores s x cert before out) is_script run in
    let run_cert = subst (λ (x : Contents). IsRun bits cores s (record { bytes = script_bytes; position = 0 }) x before out) is_cert run_script in
    let run_all = subst (λ (x : List ℕ). IsRun bits cores s (record { bytes = script_bytes; position = 0 }) (record { bytes = cert_bytes; position = 0 }) x out) none run_cert in
    let means_script = subst (λ (x : Contents). Means bits s x cert) is_script means in
    let means_all = subst (λ (x : Contents). Means bits s (record { bytes = script_bytes; position = 0 }) x) is_cert means_script in
    of_bytes bits cores s script_bytes cert_bytes out accepted run_all means_all (subst EndsInZero is_line ends)
