-- The verdict on a certificate, from what is known between two checks.
use Rattle.std.proofs.Common.{◌≡◌, ◌⊎◌, inl, inr, ℕ, suc, ◌+◌, ◌-◌, ◌<◌, ◌≤◌, ◌^◌, Bool, List, [], ◌∷◌, ◌++◌, length, take, map, Some, None, Option, Result, Ok, Err, IfSome, IfOk, OnOk, refl, sym, ap, ◌∙◌, subst, arith, append-nil, append_assoc}
use Rattle.std.proofs.lemmas.List.{length-append, length-map, map-append, length_push}
use Rattle.ffc_cert.specs.Certificate.{Certificate}
use Rattle.ffc_cert.specs.Reading.{Open, Stopped, reading_of}
use Rattle.ffc_check.specs.Judged as shown
use Rattle.ffc_smt.specs.Scripts.{reads}
use Rattle.ffc_smt.specs.TableChecks.{TableCheck, table_checks}
use Rattle.ffc_elab.specs.Histories.{check_now}
use Rattle.ffc_script.specs.Progress.{Progress, steps_of, known_at}
use Rattle.ffc_script.specs.Kept.{AreFirst}
use Rattle.ffc_script.proofs.StepLemmas.{checks_append}
use Rattle.ffc_rules.specs.Entries.{NodeCheck, limits, entry_fault_within}
use Rattle.ffc_rules.specs.Judging.{Accepted, Refused, judgement_of, node_check, judge}
use Rattle.std.proofs.lemmas.Option.{slice_get_within}
use Rattle.ffc_cert.specs.declared.entries.Numbered.{Numbered}
use Rattle.ffc_rules.proofs.ReadingLemmas.{all_read}
use Rattle.ffc_verify.proofs.FewLemmas.{entries_few}
use Rattle.ffc_verify.specs.declared.stop.Stop.{Stop}
use Rattle.ffc_verify.specs.declared.judge.Beside.{Beside}
use Rattle.ffc_verify.specs.declared.verdicts.Tally.{Tally}
use Rattle.ffc_verify.specs.declared.verdicts.Refusal.{Refusal}
use Rattle.ffc_verify.specs.declared.verdicts.Verdict.{Verdict}
use Rattle.ffc_verify.specs.declared.verdicts.Verdict.TheVariants as verdict
use Rattle.ffc_verify.specs.declared.entries.NextEntry.TheVariants as next
use Rattle.ffc_verify.specs.Due.{cores_text}
use Rattle.ffc_verify.specs.Reading.{MovesOn, IsReadWhole, Grows, IsNext}
use Rattle.ffc_verify.specs.Judged.{cause_of, IsVerdict, IsFormRefused, IsRefusedFor, EndsAsVerdict}
use Rattle.ffc_verify.specs.Walking.{GivesCheck, IsThrough, IsCounted}
use Rattle.ffc_verify.proofs.CertLemmas.{reading_front}
use Rattle.ffc_verify.proofs.WalkLemmas.{checks_few}
use Rattle.ffc_verify.proofs.JudgeLemmas.{E, no_entry, IsUnderway, IsShown, rule_refused, form_refused, accepted_here}

-- arithmetic

too_many : (g w n : ℕ) → g ≡ w → g < n → n ≤ w → ⊥
too_many g w n e lt few = absurd (omega arith)

too_few : (g w n : ℕ) → g < w → n ≤ g → n ≡ w → ⊥
too_few g w n lt le e = absurd (omega arith)

awaited_by : (g p w r a : ℕ) → g ≡ p → a ≡ w → a ≡ p + suc r → g < w
awaited_by g p w r a e f h = omega arith

small_by : (s g w n : ℕ) → s ≡ g → g < w → w ≡ n → n < 2 ^ 32 → s < 2 ^ 32
small_by s g w n e lt f few = omega arith

smaller_by : (q p x t s : ℕ) → q ≡ p + 1 → q ≤ x → x ≤ t → t ≡ s → s ≤ 67108865 → 67108866 - q < 67108866 - p
smaller_by q p x t s e a b f short = omega arith

module _ (script : List ℕ) (checks : ℕ) (bits cores : Bool) (left : Option (List ℕ)) (counted : IsCounted script checks) (p : Progress) (c : Certificate) (now : Option (List ℕ)) (t : Tally) (h : IsUnderway script checks bits cores left p c now t) where
  abbrev P : List TableCheck
  P = table_checks (steps_of p)

  abbrev cs : List NodeCheck
  cs = map node_check P

  long : length cs ≡ c.given
  long = length-map P node_check ∙ sym h.judged.count

  -- the judgement for these checks, of a text that the reader's text begins
  abbrev JudgesAs : List TableCheck → List ℕ → Type 0
  JudgesAs ds W = judge bits script W ≡ judgement_of limits (cs ++ map node_check ds) (reading_of c.bits c.wanted W)

  judges_as : (ds : List TableCheck) → table_checks (reads script).steps ≡ P ++ ds → (W : List ℕ) → JudgesAs ds W
  judges_as ds all W =
      let size : length (map node_check (P ++ ds)) ≡ c.wanted =
      length-map (P ++ ds) node_check ∙ sym (ap length all) ∙ counted.checks ∙ sym h.wanted in
      ap (λ xs. judgement_of limits (map node_check xs) (reading_of bits (length (map node_check xs)) W)) all
      ∙ ap (λ w. judgement_of limits (map node_check (P ++ ds)) (reading_of bits w W)) size
      ∙ ap (λ v. judgement_of limits (map node_check (P ++ ds)) (reading_of v c.wanted W)) (sym h.version)
      ∙ ap (λ xs. judgement_of limits xs (reading_of c.bits c.wanted W)) (map-append node_check P ds)

  module _ (d : Certificate) (grows : Grows c d) (W : List ℕ) (stated : left ≡ Some W) where
    pub form_is : (ds : List TableCheck) → table_checks (reads script).steps ≡ P ++ ds → (later : Option (List ℕ)) → MovesOn c.text now d.text later → (r : Refusal) → IsFormRefused c d now r → IsVerdict bits cores script W (verdict.Refused r)
    form_is ds all later moves r (f, ends, is) =
        let one = h.moves W stated in
        let two = moves one.0 one.1 in
        let whole : W ≡ d.text ++ two.0 = one.2 ∙ two.2 in
        judges_as ds all W
        ∙ form_refused c.bits c.wanted cs c.text d.text grows.0 grows.1 c.given h.judged.within long h.judged.kept ends.0 W (map node_check ds) f (same whole ends.1) (either ends.1)
        ∙ ap (λ (r : Refusal). Refused r.entry r.line (cause_of r.cause)) (sym is)
      where
        same : W ≡ d.text ++ (moves (h.moves W stated).0 (h.moves W stated).1).0 → ((reading_of c.bits c.wanted d.text).end ≡ Stopped f) ⊎ (((reading_of c.bits c.wanted d.text).end ≡ Open f) × IsReadWhole c.text now d.text) → reading_of c.bits c.wanted W ≡ reading_of c.bits c.wanted d.text
        same whole (inl s) = let front = reading_front c.bits c.wanted d.text (moves (h.moves W stated).0 (h.moves W stated).1).0 in ap (reading_of c.bits c.wanted) whole ∙ front.stopped f s
        same whole (inr o) = ap (reading_of c.bits c.wanted) ((h.moves W stated).2 ∙ sym (o.1 (h.moves W stated).0 (h.moves W stated).1))

        either : ((reading_of c.bits c.wanted d.text).end ≡ Stopped f) ⊎ (((reading_of c.bits c.wanted d.text).end ≡ Open f) × IsReadWhole c.text now d.text) → ((reading_of c.bits c.wanted d.text).end ≡ Stopped f) ⊎ ((reading_of c.bits c.wanted d.text).end ≡ Open f)
        either (inl s) = inl s
        either (inr o) = inr o.0

    -- after the last check

    module _ (through : IsThrough p) where
      all_checks : table_checks (reads script).steps ≡ P ++ []
      all_checks = ap (λ b. table_checks (reads b).steps) (sym h.text) ∙ through.checks ∙ sym (append-nil P)

      end_refused : (later : Option (List ℕ)) → MovesOn c.text now d.text later → (r : Refusal) → IsFormRefused c d now r → IsVerdict bits cores script W (verdict.Refused r)
      end_refused later moves r refused = form_is [] all_checks later moves r refused

      end_accepted : IsNext c d now next.Complete → IsVerdict bits cores script W (verdict.Accepted t)
      end_accepted (none, end, whole) =
          let one = h.moves W stated in
          let is : W ≡ d.text = one.2 ∙ sym (whole one.0 one.1) in
          let both = accepted_here c.bits c.wanted cs c.text d.text grows.0 grows.1 c.given h.judged.within long h.judged.kept none W end is in
          let size : length (table_checks (reads script).steps) ≡ c.wanted = counted.checks ∙ sym h.wanted in (
            judges_as [] all_checks W ∙ ap (λ xs. judgement_of limits xs (reading_of c.bits c.wanted W)) (append-nil cs) ∙ both.0 ∙ ap Accepted h.judged.counts,
            h.judged.lines ∙ ap (λ xs. cores_text cores xs (take c.given (E c.bits c.wanted c.text))) (sym (append-nil P) ∙ sym all_checks)
                ∙ ap (cores_text cores (table_checks (reads script).steps)) (sym both.1 ∙ ap (λ w. E c.bits w W) (sym size) ∙ ap (λ v. E v (length (table_checks (reads script).steps)) W) h.version),
          )

      pub end_verdict : (later : Option (List ℕ)) → MovesOn c.text now d.text later → (v : Verdict) → EndsAsVerdict c d now t v → IsVerdict bits cores script W v
      end_verdict later moves (verdict.Refused r) ends = end_refused later moves r ends
      end_verdict later moves (verdict.Accepted u) ends = subst (λ x. IsVerdict bits cores script W (verdict.Accepted x)) (sym ends.0) (end_accepted ends.1)

  pub end_given : IsThrough p → c.given ≡ c.wanted
  end_given through =
      let all : table_checks (reads script).steps ≡ P = ap (λ b. table_checks (reads b).steps) (sym h.text) ∙ through.checks in
      h.judged.count ∙ sym (ap length all) ∙ counted.checks ∙ sym h.wanted

  -- at a check

  module _ (q : Progress) (g : GivesCheck p q) (first : AreFirst q.text (steps_of q)) where
    abbrev here : TableCheck
    here = check_now (known_at q)

    pub later_checks : (ds : List TableCheck) × (table_checks (reads script).steps ≡ P ++ here ∷ ds)
    later_checks =
        let rest = first [] in
        let steps : (reads script).steps ≡ steps_of q ++ rest.0 = ap (λ b. (reads b).steps) (sym (append-nil q.text ∙ g.text ∙ h.text)) ∙ rest.1 in
        (table_checks rest.0, ap table_checks steps ∙ checks_append (steps_of q) rest.0 ∙ ap (λ xs. xs ++ table_checks rest.0) g.checks ∙ append_assoc P (here ∷ []) (table_checks rest.0))

    pub is_awaited : c.given < c.wanted
    is_awaited =
        let l = later_checks in
        let size : length (P ++ here ∷ l.0) ≡ c.wanted = sym (ap length l.1) ∙ counted.checks ∙ sym h.wanted in
        awaited_by c.given (length P) c.wanted (length l.0) (length (P ++ here ∷ l.0)) h.judged.count size (length-append P (here ∷ l.0))

    pub is_small : t.sat + t.unsat + t.unknown < 2 ^ 32
    is_small = small_by (t.sat + t.unsat + t.unknown) c.given c.wanted checks h.judged.all is_awaited h.wanted counted.few

    pub is_smaller : length script ≤ 67108865 → length (steps_of q) ≤ length q.text → 67108866 - length (table_checks (steps_of q)) < 67108866 - length (table_checks (steps_of p))
    is_smaller short few =
        let s : length q.text ≡ length script = ap length (g.text ∙ h.text) in
        smaller_by (length (table_checks (steps_of q))) (length P) (length (steps_of q)) (length q.text) (length script) (ap length g.checks ∙ length_push P here) (checks_few (steps_of q)) few s short

    module _ (b : Beside) (s : IsShown b cores here) (d : Certificate) (grows : Grows c d) (W : List ℕ) (stated : left ≡ Some W) (later : Option (List ℕ)) (moves : MovesOn c.text now d.text later) where
      pub check_refused : (r : Refusal) → IsRefusedFor (shown.judged_check b.check) c d now r → IsVerdict bits cores script W (verdict.Refused r)
      check_refused r (inr form) = let l = later_checks in form_is d grows W stated (here ∷ l.0) l.1 later moves r form
      check_refused r (inl rule) =
          let l = later_checks in
          let one = h.moves W stated in
          let two = moves one.0 one.1 in
          let is = rule.broken in
          judges_as (here ∷ l.0) l.1 W
          ∙ rule_refused c.bits c.wanted cs c.text d.text grows.0 grows.1 c.given h.judged.within long h.judged.kept W two.0 (one.2 ∙ two.2) (node_check here) (map node_check l.0) rule.entry is.0 rule.due
          (ap (λ x. entry_fault_within limits x rule.entry.entry rule.entry.first_line) (sym s.nodes) ∙ is.1)
          ∙ ap (λ (r : Refusal). Refused r.entry r.line (cause_of r.cause)) (sym is.2)

-- Entries that cannot come

pub no_more_entries : (old new : Certificate) (left : Option (List ℕ)) (e : Numbered) → old.given ≡ old.wanted → IsNext old new left (next.Entry e) → ⊥
no_more_entries old new left e all is = too_many old.given old.wanted (length (E old.bits old.wanted new.text)) all (slice_get_within (E old.bits old.wanted new.text) old.given e is.0) (entries_few old.bits old.wanted new.text)

pub not_complete : (old new : Certificate) (left : Option (List ℕ)) → old.given < old.wanted → IsNext old new left next.Complete → ⊥
not_complete old new left lt is = too_few old.given old.wanted (length (E old.bits old.wanted new.text)) lt (no_entry (E old.bits old.wanted new.text) old.given is.0) (all_read old.bits old.wanted new.text is.1)

-- where contents are stated
pub if_told : (left : Option (List ℕ)) (P : List ℕ → Type 0) → ((W : List ℕ) → left ≡ Some W → P W) → IfSome left P
if_told None P h = tt
if_told (Some W) P h = h W refl

pub ended_ok : (r : Result Verdict Stop) (P Q : Verdict → Type 0) (M : Type 0) → IfOk r P → OnOk r M → ((v : Verdict) → P v → M → Q v) → IfOk r Q
ended_ok (Ok v) P Q M p m h = h v p m
ended_ok (Err s) P Q M p m h = tt
