-- Which lines a well-formed entry has after a part of its text: just those that are read there.
use Rattle.std.proofs.Common.{◌≡◌, ℕ, ◌+◌, ◌-◌, true, false, Bool, List, [], ◌∷◌, ◌++◌, length, Result, Ok, refl, sym, ap, ◌∙◌, subst, arith, append_assoc, length-append}
use Rattle.std.specs.Prelude.{codes}
use Rattle.std.specs.List.{AllByRecursion, flat_map}
use Rattle.ffc_cert.specs.declared.flaws.Flaw.{Flaw}
use Rattle.ffc_cert.specs.declared.entries.CertLine.{CertLine}
use Rattle.ffc_cert.specs.declared.entries.Entry.{Entry}
use Rattle.ffc_cert.specs.declared.entries.Entry.TheVariants.{Sat, UnsatCases, UnsatSteps, Unknown}
use Rattle.ffc_cert.specs.declared.forms.Awaited.{Awaited}
use Rattle.ffc_cert.specs.declared.forms.Opening.{Opening}
use Rattle.ffc_cert.specs.declared.forms.Opening.TheVariants as openings
use Rattle.ffc_cert.specs.declared.progress.Progress.{Progress}
use Rattle.ffc_cert.specs.Lines.{line_at, value_at, opening_at}
use Rattle.ffc_cert.specs.Reading.{awaited_after}
use Rattle.ffc_cert.specs.Spelling.{number, line_items, line_text, value_line, clauses, entry_text}
use Rattle.ffc_cert.specs.Ranges.{IsNarrow, IsLine, IsValue}
use Rattle.ffc_cert.specs.WellFormed.{LineFitsVersion, IsWellFormed}
use Rattle.ffc_cert.specs.Laws.{IsVersion}
use Rattle.ffc_cert.specs.FirstFault.{ended_line, Begins}
use Rattle.ffc_cert.proofs.Codes.{IsPlain}
use Rattle.ffc_cert.proofs.NumberCodes.{narrow_code}
use Rattle.ffc_cert.proofs.LineCodes.{IsNext, line_reads, items_plain}
use Rattle.ffc_cert.proofs.OpeningCodes.{value_items, value_plain, value_reads, IsOpeningText, sat_reads, unsat_reads}
use Rattle.ffc_cert.proofs.GrammarLemmas.{awaiting, Completes, clauses_complete, clauses_shape}
use Rattle.ffc_cert.proofs.PrefixLemmas.{AreLines, first_of, body_of, opening_of, entry_is, first_plain, first_reads, cut_at, regroup}
use Rattle.ffc_cert.proofs.GivenLemmas.{grown, after_lines, all_push, InValues, InLines}
use Rattle.ffc_cert.proofs.FillLemmas.{all_append, filled, zeros, longer}

pub narrow_plain : (n : ℕ) → IsNarrow n → IsPlain (number n)
narrow_plain n h = narrow_code.plain n h

-- a line that is read
abbrev pub IsRead : {A : Type 0} → Result A Flaw → Type 0
IsRead {A} r = (x : A) × (r ≡ Ok x)

pub no_line : (line more : List ℕ) → line ++ (10 ∷ more) ≡ [] → ⊥
no_line [] more h = cc
no_line (c ∷ line) more h = cc

values_front : (values others : List (ℕ × ℕ)) (line more : List ℕ) → IsPlain line → AllByRecursion IsValue values → AllByRecursion IsValue others
    → flat_map value_line values ++ (line ++ (10 ∷ more)) ≡ flat_map value_line others → IsRead (value_at line)
values_front [] [] line more plain h k e = absurd (no_line line more e)
values_front [] (w ∷ others) line more plain h k e =
    let parts = cut_at line (value_items w) _ _ plain (value_plain w k.0) (e ∙ append_assoc (value_items w) (10 ∷ []) (flat_map value_line others)) in
    (w, ap value_at parts.0 ∙ value_reads w k.0)
values_front (v ∷ values) [] line more plain h k e = absurd (cc)
values_front (v ∷ values) (w ∷ others) line more plain h k e =
    let there : value_items v ++ (10 ∷ (flat_map value_line values ++ (line ++ (10 ∷ more)))) ≡ value_items w ++ (10 ∷ flat_map value_line others) =
    sym (regroup (value_items v) (flat_map value_line values) (line ++ (10 ∷ more))) ∙ e ∙ append_assoc (value_items w) (10 ∷ []) (flat_map value_line others) in
    let parts = cut_at (value_items v) (value_items w) _ _ (value_plain v h.0) (value_plain w k.0) there in
    values_front values others line more plain h.1 k.1 parts.1

-- the bytes of a part, a line with its LF, and more
pub spread : (part line more : List ℕ) → (part ++ ended_line line) ++ more ≡ part ++ (line ++ (10 ∷ more))
spread part line more = append_assoc part (ended_line line) more ∙ ap (λ (xs : List ℕ). part ++ xs) (append_assoc line (10 ∷ []) more)

module _ {bits : Bool} (version : ℕ) (known : IsVersion bits version) where
  lines_front : (lines others filling : List CertLine) (a : Awaited) (line more : List ℕ) → IsPlain line → Completes a (lines ++ filling) → Completes a others
      → AreLines version lines → AreLines version others → flat_map line_text lines ++ (line ++ (10 ∷ more)) ≡ flat_map line_text others
      → IsRead (line_at version (after_lines lines a) line)
  lines_front [] [] filling a line more plain h k p q e = absurd (no_line line more e)
  lines_front [] (m ∷ others) filling a line more plain h k p q e =
      let parts = cut_at line (line_items m) _ _ plain (items_plain version known a m q.ranges.0 q.fits.0) (e ∙ append_assoc (line_items m) (10 ∷ []) (flat_map line_text others)) in
      (m, ap (line_at version a) parts.0 ∙ line_reads version known a m k.1.0 q.ranges.0 q.fits.0)
  lines_front (l ∷ lines) [] filling a line more plain h k p q e = absurd (let clash : true ≡ false = sym k ∙ h.0 in cc)
  lines_front (l ∷ lines) (m ∷ others) filling a line more plain h k p q e =
      let there : line_items l ++ (10 ∷ (flat_map line_text lines ++ (line ++ (10 ∷ more)))) ≡ line_items m ++ (10 ∷ flat_map line_text others) =
      sym (regroup (line_items l) (flat_map line_text lines) (line ++ (10 ∷ more))) ∙ e ∙ append_assoc (line_items m) (10 ∷ []) (flat_map line_text others) in
      let parts = cut_at (line_items l) (line_items m) _ _ (items_plain version known a l p.ranges.0 p.fits.0) (items_plain version known a m q.ranges.0 q.fits.0) there in
      let both : Ok l ≡ Ok m = sym (line_reads version known a l h.1.0 p.ranges.0 p.fits.0) ∙ ap (line_at version a) parts.0 ∙ line_reads version known a m k.1.0 q.ranges.0 q.fits.0 in
      let same : l ≡ m = cc in
      lines_front lines others filling (awaited_after l a) line more plain h.1.1 (subst (λ (x : CertLine). Completes (awaited_after x a) others) (sym same) k.1.1)
      (record { ranges = p.ranges.1; fits = p.fits.1 }) (record { ranges = q.ranges.1; fits = q.fits.1 }) parts.1

  -- entries by their first lines
  record HasValues (n : ℕ) (e : Entry) : Type 0 where
    values : List (ℕ × ℕ)
    body : body_of e ≡ flat_map value_line values
    each : AllByRecursion IsValue values

  has_values : (n : ℕ) (e : Entry) → IsWellFormed version e → opening_of e ≡ openings.Assignment n → HasValues n e
  has_values n (Sat values) h o = record { values = values; body = refl; each = h.each }
  has_values n UnsatCases h o = absurd (cc)
  has_values n (UnsatSteps lines) h o = absurd (cc)
  has_values n (Unknown cause) h o = absurd (cc)

  record HasLines (n : ℕ) (e : Entry) : Type 0 where
    lines : List CertLine
    body : body_of e ≡ flat_map line_text lines
    completes : Completes (awaiting n 0 0) lines
    are : AreLines version lines

  has_lines : (n : ℕ) (e : Entry) → IsWellFormed version e → opening_of e ≡ openings.Refutation n → HasLines n e
  has_lines n (Sat values) h o = absurd (cc)
  has_lines n UnsatCases h o = absurd (cc)
  has_lines n (UnsatSteps lines) h o =
      let count : clauses lines ≡ n = cc in
      record { lines = lines; body = refl; completes = subst (λ m. Completes (awaiting m 0 0) lines) count (clauses_complete h.order); are = record { ranges = h.ranges; fits = h.fits } }
  has_lines n (Unknown cause) h o = absurd (cc)

  -- the first line of an entry, and the rest of it
  opened : (e : Entry) (first later : List ℕ) (o : Opening) → IsWellFormed version e → IsPlain first → opening_at first ≡ Ok o → entry_text e ≡ first ++ (10 ∷ later) → (opening_of e ≡ o) × (body_of e ≡ later)
  opened e first later o h plain reads text =
      let parts = cut_at (first_of e) first _ _ (first_plain version e h) plain (sym (entry_is e) ∙ text) in
      let both : Ok (opening_of e) ≡ Ok o = sym (first_reads version e h) ∙ ap opening_at parts.0 ∙ reads in
      (cc, parts.1)

  module _ (wanted : ℕ) (part : List ℕ) (p : Progress) (line more : List ℕ) (plain : IsPlain line) (e : Entry) (h : IsWellFormed version e) (text : entry_text e ≡ (part ++ ended_line line) ++ more) where
    pub opening_next : part ≡ [] → IsRead (opening_at line)
    opening_next none =
        let there : first_of e ++ (10 ∷ body_of e) ≡ line ++ (10 ∷ more) = sym (entry_is e) ∙ text ∙ spread part line more ∙ ap (λ (xs : List ℕ). xs ++ (line ++ (10 ∷ more))) none in
        let parts = cut_at (first_of e) line _ _ (first_plain version e h) plain there in
        (opening_of e, ap opening_at (sym parts.0) ∙ first_reads version e h)

    after_first_line : (first later : List ℕ) → part ≡ first ++ (10 ∷ later) → entry_text e ≡ first ++ (10 ∷ (later ++ (line ++ (10 ∷ more))))
    after_first_line first later is =
        text ∙ spread part line more ∙ ap (λ (xs : List ℕ). xs ++ (line ++ (10 ∷ more))) is ∙ append_assoc first (10 ∷ later) (line ++ (10 ∷ more))

    pub value_next : (left : ℕ) → InValues wanted left part p → IsRead (value_at line)
    value_next left inside =
        let n = length p.values + left in
        let o = opened e (codes "sat" ++ number n) (flat_map value_line p.values ++ (line ++ (10 ∷ more))) (openings.Assignment n) h
        (refl, (refl, (refl, narrow_plain n inside.few))) (sat_reads n inside.few)
        (after_first_line (codes "sat" ++ number n) (flat_map value_line p.values) inside.text_is) in
        let v = has_values n e h o.0 in
        values_front p.values v.values line more plain inside.each v.each (sym o.1 ∙ v.body)

    pub line_next : (a : Awaited) → InLines version wanted a part p → IsRead (line_at version a line)
    line_next a inside =
        let n = inside.count in
        let f = filled version a in
        let o = opened e (codes "unsat" ++ number n) (flat_map line_text p.lines ++ (line ++ (10 ∷ more))) (openings.Refutation n) h
        (refl, (refl, (refl, (refl, (refl, narrow_plain n inside.few))))) (unsat_reads n inside.few)
        (after_first_line (codes "unsat" ++ number n) (flat_map line_text p.lines) inside.text_is) in
        let v = has_lines n e h o.0 in
        subst (λ (b : Awaited). IsRead (line_at version b line)) (sym inside.reached)
        (lines_front p.lines v.lines f.lines (awaiting n 0 0) line more plain (inside.leads f.lines f.completes) v.completes inside.lines v.are (sym o.1 ∙ v.body))

  -- Conversely, an entry has the line where it is read.
  module _ (wanted : ℕ) (part : List ℕ) (p : Progress) (line : List ℕ) where
    alone_begins : part ≡ [] → (e : Entry) → IsWellFormed version e → line ≡ first_of e → Begins version (part ++ ended_line line)
    alone_begins none e h is = record {
      entry = e;
      more = body_of e;
      well_formed = h;
      text_is = entry_is e ∙ ap (λ (xs : List ℕ). xs ++ (10 ∷ body_of e)) (sym is) ∙ ap (λ (xs : List ℕ). xs ++ (line ++ (10 ∷ body_of e))) (sym none) ∙ sym (spread part line (body_of e));
    }

    pub opening_begins : part ≡ [] → (o : Opening) → IsOpeningText line o → Begins version (part ++ ended_line line)
    opening_begins none (openings.Assignment n) h =
        let z = zeros n in
        alone_begins none (Sat z.values) (record { few = subst IsNarrow (sym z.count) h.1; each = z.each }) (h.0 ∙ ap (λ (m : ℕ). codes "sat" ++ number m) (sym z.count))
    opening_begins none (openings.Refutation n) h =
        let f = filled version (awaiting n 0 0) in
        let c = clauses_shape n f.lines f.completes in
        alone_begins none (UnsatSteps f.lines) (record { few = subst IsNarrow (sym c.count) h.1; order = c.order; ranges = f.are.ranges; fits = f.are.fits })
        (h.0 ∙ ap (λ (m : ℕ). codes "unsat" ++ number m) (sym c.count))
    opening_begins none (openings.Whole (Sat values)) h = absurd h
    opening_begins none (openings.Whole UnsatCases) h = alone_begins none UnsatCases tt h
    opening_begins none (openings.Whole (UnsatSteps lines)) h = absurd h
    opening_begins none (openings.Whole (Unknown cause)) h = alone_begins none (Unknown cause) h.1 h.0

    -- lines, one more, and others
    continued : {A : Type 0} (text items : A → List ℕ) (first : List ℕ) (xs ys : List A) (x : A) → text x ≡ items x ++ 10 ∷ [] → line ≡ items x → part ≡ first ++ (10 ∷ flat_map text xs)
        → first ++ (10 ∷ flat_map text ((xs ++ x ∷ []) ++ ys)) ≡ (part ++ ended_line line) ++ flat_map text ys
    continued text items first xs ys x h is part_is =
        longer text first (xs ++ x ∷ []) ys
        ∙ ap (λ (zs : List ℕ). zs ++ flat_map text ys) (grown text items first xs x h ∙ ap (λ (zs : List ℕ). zs ++ ended_line (items x)) (sym part_is) ∙ ap (λ (zs : List ℕ). part ++ ended_line zs) (sym is))

    pub value_begins : (left : ℕ) → InValues wanted left part p → (v : ℕ × ℕ) → line ≡ value_items v → IsValue v → Begins version (part ++ ended_line line)
    value_begins left h v is holds =
        let z = zeros (left - 1) in
        let values : List (ℕ × ℕ) = (p.values ++ v ∷ []) ++ z.values in
        let count = length-append (p.values ++ v ∷ []) z.values in
        let one = length-append p.values (v ∷ []) in
        let total : length values ≡ length p.values + left = omega (arith, count, one, z.count, h.some) in
        record {
          entry = Sat values;
          more = flat_map value_line z.values;
          well_formed = record { few = omega (arith, total, h.few); each = all_append IsValue (p.values ++ v ∷ []) z.values (all_push IsValue p.values v h.each holds) z.each };
          text_is = entry_is (Sat values) ∙ ap (λ (n : ℕ). (codes "sat" ++ number n) ++ (10 ∷ flat_map value_line values)) total
              ∙ continued value_line value_items (codes "sat" ++ number (length p.values + left)) p.values z.values v refl is h.text_is;
        }

    pub line_begins : (a : Awaited) → InLines version wanted a part p → (l : CertLine) → line ≡ line_items l → IsNext l a → IsLine l → LineFitsVersion version l → Begins version (part ++ ended_line line)
    line_begins a h l is next holds fits =
        let f = filled version (awaited_after l a) in
        let lines : List CertLine = (p.lines ++ l ∷ []) ++ f.lines in
        let completes = subst (Completes (awaiting h.count 0 0)) (sym (append_assoc p.lines (l ∷ []) f.lines)) (h.leads (l ∷ f.lines) (h.more, (next, f.completes))) in
        let c = clauses_shape h.count lines completes in
        record {
          entry = UnsatSteps lines;
          more = flat_map line_text f.lines;
          well_formed = record {
            few = subst IsNarrow (sym c.count) h.few;
            order = c.order;
            ranges = all_append IsLine (p.lines ++ l ∷ []) f.lines (all_push IsLine p.lines l h.lines.ranges holds) f.are.ranges;
            fits = all_append (LineFitsVersion version) (p.lines ++ l ∷ []) f.lines (all_push (LineFitsVersion version) p.lines l h.lines.fits fits) f.are.fits;
          };
          text_is = entry_is (UnsatSteps lines) ∙ ap (λ (n : ℕ). (codes "unsat" ++ number n) ++ (10 ∷ flat_map line_text lines)) c.count
              ∙ continued line_text line_items (codes "unsat" ++ number h.count) p.lines f.lines l refl is h.text_is;
        }
