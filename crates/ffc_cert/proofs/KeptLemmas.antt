-- What a reader keeps, and what follows for its answers.
use Rattle.std.proofs.Common.{◌≡◌, ℕ, zero, suc, ◌+◌, ◌^◌, ◌<◌, ◌≤◌, List, [], ◌∷◌, ◌++◌, length, drop, Option, Some, None, refl, sym, ap, ◌∙◌, subst, arith, length-append, append_assoc}
use Rattle.std.specs.Prelude.{slice_get, if◌then◌else◌, Bool, true, false, MatchOption}
use Rattle.std.specs.List.{position_or_len}
use Rattle.std.proofs.lemmas.List.{append-nil, drop-append-le}
use Rattle.ffc_cert.specs.Kept.{IsKept}
use Rattle.ffc_cert.specs.declared.entries.CertFault.{CertFault}
use Rattle.ffc_cert.specs.declared.entries.Numbered.{Numbered}
use Rattle.ffc_cert.specs.declared.progress.Progress.{Progress}
use Rattle.ffc_cert.specs.declared.scanning.Scanner.{Scanner}
use Rattle.ffc_cert.specs.Reading.{Reading, Complete, Open, Stopped, ending, fault_at, is_complete, read_text, reading_of, stop_fault, is_line_end}
use Rattle.ffc_cert.specs.Scan.{IsWindow, IsReady, IsStopped, IsEntry, IsDone, ahead, without, end_here}
use Rattle.ffc_cert.specs.Certificate.{Certificate, IsRead, next_entry_of, fault_behind, due_fault, version_of}
use Rattle.ffc_cert.proofs.TextLemmas.{version_stays}

longer : (xs ys : List ℕ) → position_or_len is_line_end xs ≤ position_or_len is_line_end (xs ++ ys)
longer [] ys = omega arith
longer (x ∷ xs) ys = grind (arith, longer xs ys)

pub fed : (bits : Bool) (wanted : ℕ) (text piece : List ℕ) (s : Scanner) → IsReady bits wanted text s → IsReady bits wanted (text ++ piece) s
fed bits wanted text piece s r =
    let later : drop s.start (text ++ piece) ≡ drop s.start text ++ piece = drop-append-le s.start text piece (omega (arith, r.within, r.limit)) in record {
      kept = r.kept;
      within = r.within;
      limit = omega (arith, r.limit, length-append text piece);
      unended = rw later (omega (arith, r.unended, longer (drop s.start text) piece));
      line = r.line;
      complete = r.complete;
      bounded = r.bounded;
      reads = λ more. rw (later, append_assoc text piece more, append_assoc (drop s.start text) piece more) (r.reads (piece ++ more));
    }

pub entry_due : (bits : Bool) (wanted n given : ℕ) (text : List ℕ) (entry : Numbered) → IsEntry bits wanted n text entry → n ≡ given → next_entry_of bits wanted text given ≡ Some entry
entry_due bits wanted n given text entry h same =
    let whole = append-nil text in let here = h [] in let one = rw whole at here in rw (← same) one

none_left : (n : ℕ) (xs : List Numbered) → drop n xs ≡ [] → slice_get xs n ≡ None
none_left zero [] h = refl
none_left zero (x ∷ xs) h = absurd (cc)
none_left (suc n) [] h = refl
none_left (suc n) (x ∷ xs) h = none_left n xs h

ended : (bits : Bool) (wanted n given : ℕ) (text : List ℕ) (r : Reading) → without n (reading_of bits wanted text) ≡ r → n ≡ given → r.entries ≡ []
    → (next_entry_of bits wanted text given ≡ None) × ((reading_of bits wanted text).end ≡ r.end)
ended bits wanted n given text r h same empty =
    (rw (← same) (none_left n (reading_of bits wanted text).entries (ap (λ (x : Reading). x.entries) h ∙ empty)), ap (λ (x : Reading). x.end) h)

pub done_end : (bits : Bool) (wanted given : ℕ) (text : List ℕ) (s : Scanner) → IsReady bits wanted text s → IsDone wanted text s → s.progress.complete ≡ given
    → (next_entry_of bits wanted text given ≡ None) × ((reading_of bits wanted text).end ≡ end_here wanted s.progress)
done_end bits wanted given text s r d same =
    let h : without s.progress.complete (reading_of bits wanted text) ≡ read_text wanted s.progress (ahead text s) = (let here = r.reads [] in rw (append-nil text, append-nil (drop s.start text)) at here) in
    let e = ended bits wanted s.progress.complete given text (read_text wanted s.progress (ahead text s)) h same d.0 in
    (e.0, e.1 ∙ d.1)

no_stop : (p : Progress) (b : Bool) → stop_fault (if b then Complete else Open (fault_at 4 p)) ≡ None
no_stop p true = refl
no_stop p false = refl

pub done_due : (bits : Bool) (wanted given : ℕ) (text : List ℕ) (s : Scanner) → IsReady bits wanted text s → IsDone wanted text s → s.progress.complete ≡ given
    → (next_entry_of bits wanted text given ≡ None) × (stop_fault (reading_of bits wanted text).end ≡ None)
unfolding end_here
done_due bits wanted given text s r d same =
    let e = done_end bits wanted given text s r d same in
    (e.0, ap stop_fault e.1 ∙ no_stop s.progress (is_complete s.progress.place s.progress.complete wanted))

pub stopped_due : (bits : Bool) (wanted n given : ℕ) (text : List ℕ) (fault : CertFault) → IsStopped bits wanted n text fault → n ≡ given
    → (next_entry_of bits wanted text given ≡ None) × (stop_fault (reading_of bits wanted text).end ≡ Some fault)
stopped_due bits wanted n given text fault h same =
    let k : without n (reading_of bits wanted text) ≡ ending (Stopped fault) = let whole = append-nil text in let here = h [] in rw whole at here in
    let e = ended bits wanted n given text (ending (Stopped fault)) k same refl in
    (e.0, ap stop_fault e.1)

pub entry_no_fault : (bits : Bool) (wanted given : ℕ) (text : List ℕ) (entry : Numbered) → next_entry_of bits wanted text given ≡ Some entry → due_fault None bits wanted text given ≡ None
entry_no_fault bits wanted given text entry h = ap (λ (o : Option Numbered). fault_behind o bits wanted text) h

pub end_fault_due : (bits : Bool) (wanted given : ℕ) (text : List ℕ) (f : Option CertFault) → (next_entry_of bits wanted text given ≡ None) × (stop_fault (reading_of bits wanted text).end ≡ f)
    → due_fault None bits wanted text given ≡ f
end_fault_due bits wanted given text f h = ap (λ (o : Option Numbered). fault_behind o bits wanted text) h.0 ∙ h.1

-- no entry or fault is left to be found
pub no_entry : (bits : Bool) (wanted n : ℕ) (text : List ℕ) (entry : Numbered) → IsEntry bits wanted n text entry → next_entry_of bits wanted text n ≡ None → ⊥
no_entry bits wanted n text entry h none =
    let clash : Some entry ≡ None = sym (entry_due bits wanted n n text entry h refl) ∙ none in
    cc

pub no_fault : (bits : Bool) (wanted n : ℕ) (text : List ℕ) (fault : CertFault) → IsStopped bits wanted n text fault → stop_fault (reading_of bits wanted text).end ≡ None → ⊥
no_fault bits wanted n text fault h none =
    let clash : Some fault ≡ None = sym (stopped_due bits wanted n n text fault h refl).1 ∙ none in
    cc

-- what is known where the text so far was read
pub read_out : (c : Certificate) → IsRead c → c.fault ≡ None → (next_entry_of c.bits c.wanted c.text c.given ≡ None) × (stop_fault (reading_of c.bits c.wanted c.text).end ≡ None)
read_out c read none =
    subst (λ o. MatchOption o ((next_entry_of c.bits c.wanted c.text c.given ≡ None) × (stop_fault (reading_of c.bits c.wanted c.text).end ≡ None)) (λ _. Unit {0})) none read

-- the window goes on as the text does
window_fed : (gone : ℕ) (text window piece : List ℕ) → IsWindow gone text window → IsWindow gone (text ++ piece) (window ++ piece)
window_fed gone text window piece w = record {
  bytes = ap (λ (xs : List ℕ). xs ++ piece) w.bytes ∙ sym (drop-append-le gone text piece (omega (arith, w.size)));
  size = omega (arith, w.size, length-append text piece, length-append window piece);
}

drop_none : (gone : ℕ) (text : List ℕ) → gone ≡ 0 → drop gone text ≡ text
drop_none gone text h = ap (λ (n : ℕ). drop n text) h

-- what line 1 names after a piece
version_fed : (bits : Bool) (gone : ℕ) (text window piece : List ℕ) (old new : Option ℕ) → IsWindow gone text window → old ≡ version_of bits text → (old ≡ None → gone ≡ 0)
    → MatchOption old (new ≡ version_of bits (window ++ piece)) (λ v. new ≡ Some v) → new ≡ version_of bits (text ++ piece)
version_fed bits gone text window piece None new w is front h =
    h ∙ ap (λ (xs : List ℕ). version_of bits (xs ++ piece)) (w.bytes ∙ drop_none gone text (front refl))
version_fed bits gone text window piece (Some v) new w is front h = h ∙ sym (version_stays bits text piece v (sym is))

front_fed : (gone : ℕ) (x : Option ℕ) (old new : Option ℕ) → (old ≡ None → gone ≡ 0) → MatchOption old (new ≡ x) (λ v. new ≡ Some v) → new ≡ None → gone ≡ 0
front_fed gone x None new front h none = front refl
front_fed gone x (Some v) new front h none = absurd (let clash : Some v ≡ None = sym h ∙ none in cc)

pub kept_fed : (bits : Bool) (wanted given : ℕ) (text piece window : List ℕ) (fault : Option CertFault) (s : Scanner) (old new : Option ℕ) → IsKept bits wanted text given fault s window old
    → length text + length piece < 2 ^ 63 → MatchOption old (new ≡ version_of bits (window ++ piece)) (λ v. new ≡ Some v)
    → IsKept bits wanted (text ++ piece) given fault s (window ++ piece) new
kept_fed bits wanted given text piece window fault s old new k room h = record {
  ready = λ none. fed bits wanted text piece s (k.ready none);
  count = k.count;
  size = omega (arith, room, length-append text piece);
  window = window_fed s.gone text window piece k.window;
  version = version_fed bits s.gone text window piece old new k.window k.version k.front h;
  front = front_fed s.gone (version_of bits (window ++ piece)) old new k.front h;
}

-- the scanner goes on
pub kept_on : (bits : Bool) (wanted given more : ℕ) (text window : List ℕ) (old new : Option CertFault) (s t : Scanner) (version : Option ℕ) → IsKept bits wanted text given old s window version
    → t.gone ≡ s.gone → (new ≡ None → IsReady bits wanted text t) → (new ≡ None → t.progress.complete ≡ more) → IsKept bits wanted text more new t window version
kept_on bits wanted given more text window old new s t version k gone ready count = record {
  ready = ready;
  count = count;
  size = k.size;
  window = subst (λ (n : ℕ). IsWindow n text window) (sym gone) k.window;
  version = k.version;
  front = λ e. gone ∙ k.front e;
}

-- before the first byte
nothing_named : (bits : Bool) → None ≡ version_of bits []
nothing_named true = refl
nothing_named false = refl

pub kept_first : (bits : Bool) (wanted : ℕ) (text window : List ℕ) (s : Scanner) → text ≡ [] → window ≡ [] → IsReady bits wanted [] s → s.progress.complete ≡ 0 → s.gone ≡ 0 → IsKept bits wanted text 0 None s window None
kept_first bits wanted text window s none empty ready complete gone =
    rw (none, empty) (record {
      ready = λ _. ready;
      count = λ _. complete;
      size = omega arith;
      window = record { bytes = ap (λ (n : ℕ). drop n []) (sym gone); size = omega (arith, gone) };
      version = nothing_named bits;
      front = λ _. gone;
    })
