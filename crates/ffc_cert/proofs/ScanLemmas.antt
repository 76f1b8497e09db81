-- The scanner goes on after a line.
use Rattle.std.proofs.Common.{◌≡◌, ℕ, zero, suc, ◌+◌, ◌-◌, ◌≤◌, ◌<◌, Bool, List, [], ◌∷◌, ◌++◌, length, take, drop, Some, refl, ap, ◌∙◌, arith, length-drop, add-one, true, false}
use Rattle.std.specs.Prelude.{slice_get}
use Rattle.std.specs.List.{position_or_len, before_first, after_first}
use Rattle.std.proofs.lemmas.List.{drop-drop}
use Rattle.ffc_cert.specs.declared.entries.CertFault.{CertFault}
use Rattle.ffc_cert.specs.declared.entries.CertStop.{CertStop}
use Rattle.ffc_cert.specs.declared.entries.CertStop.TheVariants.{Fault, Memory}
use Rattle.ffc_cert.specs.declared.entries.Numbered.{Numbered}
use Rattle.ffc_cert.specs.declared.progress.Progress.{Progress}
use Rattle.ffc_cert.specs.declared.scanning.Scanner.{Scanner}
use Rattle.ffc_cert.specs.Bounds.{Follows}
use Rattle.ffc_cert.specs.Reading.{Reading, End, Next, Halt, Move, Give, Stopped, next_at, read_text, reading_of, is_line_end}
use Rattle.ffc_cert.specs.Taking.{MatchStop}
use Rattle.ffc_cert.specs.Scan.{IsWindow, IsReady, IsStopped, IsEntry, AfterStop, ahead, without}
use Rattle.std.specs.Prelude.{nat_lt, ◌&&◌}
use Rattle.ffc_cert.specs.declared.TheConstants.{MAX_BYTES}
use Rattle.ffc_cert.specs.Reading.{end_at, fault_at, is_complete}
use Rattle.ffc_cert.specs.Scan.{IsDone}
use Rattle.ffc_cert.proofs.ReadLemmas.{after_next, read_line}
use Rattle.ffc_cert.proofs.RestLemmas.{rest_halts, cut_halts, over_halts, not_over, none_found}

pub record Front (n : ℕ) (xs : List Numbered) (x : Numbered) (ys : List Numbered) : Type 0 where
  pub first : slice_get xs n ≡ Some x
  pub others : drop (suc n) xs ≡ ys

pub front_of : (n : ℕ) (xs : List Numbered) (x : Numbered) (ys : List Numbered) → drop n xs ≡ x ∷ ys → Front n xs x ys
front_of zero [] x ys h = absurd (cc)
front_of zero (z ∷ zs) x ys h = record { first = cc; others = cc }
front_of (suc n) [] x ys h = absurd (cc)
front_of (suc n) (z ∷ zs) x ys h = let r = front_of n zs x ys h in record { first = r.first; others = r.others }

-- the bytes of a window from a place of the text on, and those of a line
pub window_rest : (gone start : ℕ) (text window : List ℕ) → IsWindow gone text window → gone ≤ start → drop (start - gone) window ≡ drop start text
window_rest gone start text window w le =
    ap (λ (xs : List ℕ). drop (start - gone) xs) w.bytes ∙ drop-drop (start - gone) gone text ∙ ap (λ (n : ℕ). drop n text) (omega arith)

pub window_line : (gone start end : ℕ) (text window : List ℕ) → IsWindow gone text window → gone ≤ start → start ≤ end
    → take ((end - gone) - (start - gone)) (drop (start - gone) window) ≡ take (end - start) (drop start text)
window_line gone start end text window w le further =
    ap (λ (xs : List ℕ). take ((end - gone) - (start - gone)) xs) (window_rest gone start text window w le) ∙ ap (λ (n : ℕ). take n (drop start text)) (omega arith)

same_reading : (a b : Reading) → a.entries ≡ b.entries → a.end ≡ b.end → a ≡ b
same_reading a b e f =
    ap (λ (xs : List Numbered). record { entries = xs; end = a.end }) e ∙ ap (λ (z : End). record { entries = b.entries; end = z }) f

-- The line that ends at this place.
module _ (bits : Bool) (wanted : ℕ) (text : List ℕ) (s : Scanner) (end : ℕ) (ready : IsReady bits wanted text s) (whole : end < length text)
    (found : end ≡ s.start + position_or_len is_line_end (ahead text s)) where
  shorter : position_or_len is_line_end (ahead text s) < length (ahead text s)
  shorter = omega (arith, length-drop s.start text)

  pub line_is : take (end - s.start) (drop s.start text) ≡ before_first is_line_end (ahead text s)
  line_is = ap (λ (n : ℕ). take n (drop s.start text)) (omega arith)

  rest_is : after_first is_line_end (ahead text s) ≡ drop (end + 1) text
  rest_is = drop-drop (position_or_len is_line_end (ahead text s) + 1) s.start text ∙ ap (λ (n : ℕ). drop n text) (omega arith)

  leads : (n : Next) (more : List ℕ) → next_at wanted s.progress (take (end - s.start) (drop s.start text)) ≡ n
      → without s.progress.complete (reading_of bits wanted (text ++ more)) ≡ after_next n (λ q. read_text wanted q (drop (end + 1) text ++ more))
  leads n more h =
      let k : next_at wanted s.progress (before_first is_line_end (ahead text s)) ≡ n = rw line_is at h in
      ready.reads more ∙ rw (← rest_is) (read_line wanted s.progress (ahead text s) more n shorter k)

  pub halts : (fault : CertFault) → next_at wanted s.progress (take (end - s.start) (drop s.start text)) ≡ Halt fault
      → IsStopped bits wanted s.progress.complete text fault
  halts fault h more = leads (Halt fault) more h

  pub goes : (q : Progress) → next_at wanted s.progress (take (end - s.start) (drop s.start text)) ≡ Move q → Follows s.progress q
      → q.complete ≡ s.progress.complete → IsReady bits wanted text (record { progress = q; gone = s.gone; start = end + 1; scanned = end + 1 })
  goes q h follows same = record {
    kept = omega (arith, ready.kept);
    within = omega arith;
    limit = omega arith;
    unended = omega arith;
    line = omega (arith, follows.line, ready.line);
    complete = omega (arith, follows.complete, ready.complete);
    bounded = follows.bounded;
    reads = λ more. ap (λ (n : ℕ). without n (reading_of bits wanted (text ++ more))) same ∙ leads (Move q) more h;
  }

  gave_front : (entry : Numbered) (q : Progress) (more : List ℕ) → next_at wanted s.progress (take (end - s.start) (drop s.start text)) ≡ Give entry q
      → Front s.progress.complete (reading_of bits wanted (text ++ more)).entries entry (read_text wanted q (drop (end + 1) text ++ more)).entries
  gave_front entry q more h = front_of _ _ _ _ (ap (λ (r : Reading). r.entries) (leads (Give entry q) more h))

  pub gives : (entry : Numbered) (q : Progress) → next_at wanted s.progress (take (end - s.start) (drop s.start text)) ≡ Give entry q → Follows s.progress q
      → q.complete ≡ s.progress.complete + 1 → IsReady bits wanted text (record { progress = q; gone = s.gone; start = end + 1; scanned = end + 1 })
  gives entry q h follows more_by_one = record {
    kept = omega (arith, ready.kept);
    within = omega arith;
    limit = omega arith;
    unended = omega arith;
    line = omega (arith, follows.line, ready.line);
    complete = omega (arith, follows.complete, ready.complete);
    bounded = follows.bounded;
    reads = λ more. ap (λ (n : ℕ). without n (reading_of bits wanted (text ++ more))) (more_by_one ∙ add-one s.progress.complete)
        ∙ same_reading (without (suc s.progress.complete) (reading_of bits wanted (text ++ more))) (read_text wanted q (drop (end + 1) text ++ more)) (gave_front entry q more h).others (ap (λ (r : Reading). r.end) (leads (Give entry q) more h));
  }

  pub gives_entry : (entry : Numbered) (q : Progress) → next_at wanted s.progress (take (end - s.start) (drop s.start text)) ≡ Give entry q
      → IsEntry bits wanted s.progress.complete text entry
  gives_entry entry q h more = (gave_front entry q more h).first

  pub stops : (stop : CertStop) (q : Progress)
      → MatchStop stop (λ fault. next_at wanted s.progress (take (end - s.start) (drop s.start text)) ≡ Halt fault) (q ≡ s.progress)
      → AfterStop stop bits wanted s.progress.complete text (record s { progress = q })
  stops (Fault fault) q h = halts fault h
  stops Memory q h = rw h (ready, refl)

-- What has come of a line that is not whole.
module _ (bits : Bool) (wanted : ℕ) (text : List ℕ) (s : Scanner) (ready : IsReady bits wanted text s)
    (none : length text ≤ s.start + position_or_len is_line_end (ahead text s)) where
  unended : length (ahead text s) ≤ position_or_len is_line_end (ahead text s)
  unended = omega (arith, length-drop s.start text)

  stopped : (fault : CertFault)
      → ((x : List ℕ) → (next_at wanted s.progress (ahead text s ++ x) ≡ Halt fault) × (end_at wanted s.progress (ahead text s ++ x) ≡ Stopped fault))
      → IsStopped bits wanted s.progress.complete text fault
  stopped fault h more = ready.reads more ∙ rest_halts wanted s.progress (ahead text s) more fault unended h

  pub too_long : (stop : CertStop) (q : Progress) → MAX_BYTES < length (ahead text s)
      → MatchStop stop (λ fault. next_at wanted s.progress (ahead text s) ≡ Halt fault) (q ≡ s.progress)
      → AfterStop stop bits wanted s.progress.complete text (record s { progress = q })
  too_long (Fault fault) q long h = stopped fault (cut_halts wanted s.progress (ahead text s) fault long h)
  too_long Memory q long h = rw h (ready, refl)

  pub over : (is_complete s.progress.place s.progress.complete wanted && nat_lt 0 (length (ahead text s))) ≡ true
      → IsStopped bits wanted s.progress.complete text (fault_at 2 s.progress)
  over h = stopped (fault_at 2 s.progress) (over_halts wanted s.progress (ahead text s) h)

  pub waits : length (ahead text s) ≤ MAX_BYTES → (is_complete s.progress.place s.progress.complete wanted && nat_lt 0 (length (ahead text s))) ≡ false
      → IsReady bits wanted text (record s { scanned = length text }) × IsDone wanted text (record s { scanned = length text })
  waits few h = (
    record {
      kept = ready.kept;
      within = omega (arith, ready.within, ready.limit);
      limit = omega arith;
      unended = none;
      line = ready.line;
      complete = ready.complete;
      bounded = ready.bounded;
      reads = ready.reads;
    },
    none_found wanted s.progress (ahead text s) unended few (not_over _ (ahead text s) h),
  )
