-- The flaw of a line is at its first item at fault.
use Rattle.std.proofs.Common.{◌≡◌, ℕ, ◌+◌, Bool, true, false, List, [], ◌∷◌, ◌++◌, length, Result, Ok, Err, ◌⊎◌, inl, inr, refl, sym, ap, ◌∙◌, subst, arith, append_assoc, append-nil}
use Rattle.std.specs.Prelude.{if◌then◌else◌, codes}
use Rattle.std.specs.List.{flat_map}
use Rattle.std.specs.Str.{bytes_eq}
use Rattle.ffc_cert.specs.declared.flaws.Flaw.{Flaw}
use Rattle.ffc_cert.specs.declared.flaws.Flaw.TheVariants.{Form, Number, Missing}
use Rattle.ffc_cert.specs.declared.entries.CertLine.{CertLine}
use Rattle.ffc_cert.specs.declared.forms.Awaited.{Awaited}
use Rattle.ffc_cert.specs.declared.forms.Opening.{Opening}
use Rattle.ffc_cert.specs.declared.forms.Opening.TheVariants as openings
use Rattle.ffc_cert.specs.declared.progress.Progress.{Progress}
use Rattle.ffc_cert.specs.Items.{◌>>=◌, first_item, behind_item, item_at, ended, narrow_at, wide_at}
use Rattle.ffc_cert.specs.Lines.{line_at, value_at, opening_at, form_at, opening_form}
use Rattle.ffc_cert.specs.Reading.{awaited_after}
use Rattle.ffc_cert.specs.Spelling.{number, value_line, line_items, line_text, clauses}
use Rattle.ffc_cert.specs.Ranges.{IsNarrow}
use Rattle.ffc_cert.specs.Laws.{IsVersion}
use Rattle.ffc_cert.specs.Cuts.{IsCut}
use Rattle.ffc_cert.specs.LineItems.{Item, spaced, items_of, value_items, first_items, AreRight}
use Rattle.ffc_cert.specs.FirstItem.{MayFollow, first_line, value_line_next, refutation_line_next, BeginsLine, HasBadNumber, IsFlawed, at_item}
use Rattle.ffc_cert.proofs.Codes.{same_parts}
use Rattle.ffc_cert.proofs.NumberCodes.{IsItem}
use Rattle.ffc_cert.proofs.LineCodes.{IsNext, line_reads, items_plain, ended_gives}
use Rattle.ffc_cert.proofs.OpeningCodes.{unsat_reads}
use Rattle.ffc_cert.proofs.GrammarLemmas.{awaiting, Completes, clauses_complete, clauses_shape}
use Rattle.ffc_cert.proofs.PrefixLemmas.{AreLines, opening_of, cut_at}
use Rattle.ffc_cert.proofs.GivenLemmas.{after_lines, InValues, InLines}
use Rattle.ffc_cert.proofs.FillLemmas.{filled}
use Rattle.ffc_cert.proofs.NextLines.{no_line, narrow_plain}
use Rattle.ffc_cert.proofs.Gradual.{Stops, IsBadTail, IsWhy, Fails, Gives, IsGradual}
use Rattle.ffc_cert.proofs.GradualItems.{IsNextItem, next_item}
use Rattle.ffc_cert.proofs.WordLemmas.{word_at}
use Rattle.ffc_cert.proofs.LineGradual.{MayCome, line_gradual, value_form, value_gradual, first_gradual}

blank_item : (bytes : List ℕ) → item_at (32 ∷ bytes) ≡ Ok (first_item bytes, behind_item bytes)
unfolding item_at
blank_item bytes = refl

-- what the flaw of a line is
pub record IsFlawOfLine (version : ℕ) (part line : List ℕ) (flaw : Flaw) : Type 0 where
  pub form : flaw ≡ Form → IsFlawed version part line 2
  pub number : flaw ≡ Number → IsFlawed version part line 3
  pub missing : flaw ≡ Missing → BeginsLine version part (32 ∷ line)

-- one of the lines that may come
pub record IsLineOf {T : Type 0} (lines : T → List Item) (Q : T → Type 0) (items : List Item) : Type 0 where
  pub line : T
  pub holds : Q line
  pub items_are : items ≡ lines line

module _ (version : ℕ) (part : List ℕ) {T A : Type 0} (at : List ℕ → Result (A × List ℕ) Flaw) (lines : T → List Item) (value : T → A) (Q : T → Type 0) (g : IsGradual at lines value Q)
    (follows : (t : T) → Q t → MayFollow version part (lines t)) (from : (items : List Item) → MayFollow version part items → IsLineOf lines Q items) where
  -- nothing is wrong with such bytes, but that items may lack
  begun_by : (front others : List Item) → IsLineOf lines Q (front ++ others) → AreRight front → (at (spaced front) ≡ Err Missing) ⊎ ((x : A) × (at (spaced front) ≡ Ok (x, [])))
  begun_by front [] l r =
      let items : front ≡ lines l.line = sym (append-nil front) ∙ l.items_are in
      let read = g.reads l.line [] l.holds (subst AreRight items r) tt in
      inr (value l.line, ap at (sym (append-nil (spaced front)) ∙ ap (λ (xs : List Item). spaced xs ++ []) items) ∙ read)
  begun_by front (o ∷ os) l r =
      inl (ap at (sym (append-nil (spaced front))) ∙ g.sure l.line front o os [] Missing l.holds (sym l.items_are) r (inl (refl, refl)))

  begun_reads : (bytes : List ℕ) → BeginsLine version part bytes → (at bytes ≡ Err Missing) ⊎ ((x : A) × (at bytes ≡ Ok (x, [])))
  begun_reads bytes b = subst (λ (bs : List ℕ). (at bs ≡ Err Missing) ⊎ ((x : A) × (at bs ≡ Ok (x, [])))) (sym b.bytes_are) (begun_by b.front b.others (from (b.front ++ b.others) b.follows) b.right)

  never_fails : (bytes : List ℕ) (flaw : Flaw) → (flaw ≡ Missing → ⊥) → at bytes ≡ Err flaw → BeginsLine version part bytes → ⊥
  never_fails bytes flaw other h b = elim (begun_reads bytes b) [
    | inl m ↦ other (let both : Err flaw ≡ Err Missing = sym h ∙ m in cc)
    | inr ok ↦ (let both : Err flaw ≡ Ok (ok.0, []) = sym h ∙ ok.1 in cc)
  ]

  never_more : (bytes : List ℕ) (x : A) (c : ℕ) (cs : List ℕ) → at bytes ≡ Ok (x, c ∷ cs) → BeginsLine version part bytes → ⊥
  never_more bytes x c cs h b = elim (begun_reads bytes b) [
    | inl m ↦ (let both : Ok (x, c ∷ cs) ≡ Err Missing = sym h ∙ m in cc)
    | inr ok ↦ (let none : c ∷ cs ≡ [] = (same_parts x ok.0 (c ∷ cs) [] (sym h ∙ ok.1)).1 in cc)
  ]

  bad_reads : (before item : List ℕ) → IsItem item → HasBadNumber version part before item → at (before ++ (32 ∷ item)) ≡ Err Number
  bad_reads before item whole b =
      let l = from (b.front ++ b.due ∷ b.others) b.follows in
      let tail : IsBadTail b.due (32 ∷ item) Number =
      record { item = item; after = []; tail_is = ap (λ (xs : List ℕ). 32 ∷ xs) (sym (append-nil item)); whole = whole; cut = tt; bad = b.bad; flaw_is = refl } in
      ap (λ (xs : List ℕ). at (xs ++ (32 ∷ item))) b.bytes_are ∙ g.sure l.line b.front b.due b.others (32 ∷ item) Number l.holds (sym l.items_are) b.right (inr tail)

  front_begins : (t : T) → Q t → (front others : List Item) → lines t ≡ front ++ others → AreRight front → BeginsLine version part (spaced front)
  front_begins t q front others is r = record { front = front; others = others; follows = subst (MayFollow version part) is (follows t q); right = r; bytes_are = refl }

  item_fault : (line before item after : List ℕ) (code : ℕ) → 32 ∷ line ≡ before ++ (32 ∷ (item ++ after)) → IsItem item → IsCut after → BeginsLine version part before
      → (BeginsLine version part (before ++ (32 ∷ item)) → ⊥) → ((code ≡ 3) × HasBadNumber version part before item) ⊎ ((code ≡ 2) × (HasBadNumber version part before item → ⊥)) → IsFlawed version part line code
  item_fault line before item after code is whole cut begun none code_is =
      at_item (record { before = before; item = item; after = after; line_is = is; whole = whole; cut = cut; begun = begun; none = none; code_is = code_is })

  -- the reader has failed
  of_fails : (line : List ℕ) (flaw : Flaw) → Fails at lines Q (32 ∷ line) flaw → IsFlawOfLine version part line flaw
  of_fails line flaw f = by f.why
    where
      begun : BeginsLine version part (spaced f.front)
      begun = front_begins f.shape f.holds f.front (f.due ∷ f.others) f.items_are f.right

      by : IsWhy (λ (bs : List ℕ). at (spaced f.front ++ bs) ≡ Err flaw) f.due f.tail flaw → IsFlawOfLine version part line flaw
      by (inl h) =
          let bytes : 32 ∷ line ≡ spaced f.front = f.bytes_are ∙ ap (λ (xs : List ℕ). spaced f.front ++ xs) h.0 ∙ append-nil (spaced f.front) in
          record {
            form = λ e. absurd (let clash : Form ≡ Missing = sym e ∙ h.1 in cc);
            number = λ e. absurd (let clash : Number ≡ Missing = sym e ∙ h.1 in cc);
            missing = λ e. subst (BeginsLine version part) (sym bytes) begun;
          }
      by (inr w) =
          let bytes : 32 ∷ line ≡ spaced f.front ++ (32 ∷ (w.item ++ w.after)) = f.bytes_are ∙ ap (λ (xs : List ℕ). spaced f.front ++ xs) w.tail_is in
          let none : BeginsLine version part (spaced f.front ++ (32 ∷ w.item)) → ⊥ = never_fails (spaced f.front ++ (32 ∷ w.item)) flaw w.other w.stays in
          record {
            form = λ e. item_fault line (spaced f.front) w.item w.after 2 bytes w.whole w.cut begun none
                (inr (refl, λ b. let clash : Err Form ≡ Err Number = ap Err (sym e) ∙ sym w.stays ∙ bad_reads (spaced f.front) w.item w.whole b in cc));
            number = λ e. item_fault line (spaced f.front) w.item w.after 3 bytes w.whole w.cut begun none
                (inl (refl, record { front = f.front; due = f.due; others = f.others; follows = subst (MayFollow version part) f.items_are (follows f.shape f.holds); right = f.right; bytes_are = refl; bad = w.number e }));
            missing = λ e. absurd (w.other e);
          }

  -- the reader has read a line, and then bytes are left
  of_more : (line : List ℕ) (x : A) (rest : List ℕ) → Gives lines value Q (32 ∷ line) x rest → (c : ℕ) (cs : List ℕ) → rest ≡ c ∷ cs → IsFlawed version part line 2
  of_more line x rest v c cs is =
      let blank : c ≡ 32 = subst IsCut is v.cut in
      let i : IsNextItem (32 ∷ cs) (first_item cs) (behind_item cs) = next_item (32 ∷ cs) (first_item cs) (behind_item cs) (blank_item cs) in
      let before : List ℕ = spaced (lines v.shape) in
      let bytes : 32 ∷ line ≡ before ++ (32 ∷ (first_item cs ++ behind_item cs)) = v.bytes_are ∙ ap (λ (xs : List ℕ). before ++ xs) (is ∙ ap (λ (b : ℕ). b ∷ cs) blank ∙ i.bytes_are) in
      let read : at (before ++ (32 ∷ first_item cs)) ≡ Ok (value v.shape, 32 ∷ first_item cs) = g.reads v.shape (32 ∷ first_item cs) v.holds v.right refl in
      item_fault line before (first_item cs) (behind_item cs) 2 bytes i.whole i.cut (front_begins v.shape v.holds (lines v.shape) [] (sym (append-nil (lines v.shape))) v.right)
      (never_more (before ++ (32 ∷ first_item cs)) (value v.shape) 32 (first_item cs) read)
      (inr (refl, λ b. let clash : Ok (value v.shape, 32 ∷ first_item cs) ≡ Err Number = sym read ∙ bad_reads before (first_item cs) i.whole b in cc))

  ended_by : (line : List ℕ) (flaw : Flaw) (x : A) (rest : List ℕ) → Gives lines value Q (32 ∷ line) x rest → (left : List ℕ) → rest ≡ left → Stops {A = A} (ended (x, left)) flaw → IsFlawOfLine version part line flaw
  unfolding ended
  ended_by line flaw x rest v [] is h = absurd (cc)
  ended_by line flaw x rest v (c ∷ cs) is h =
      let f : Form ≡ flaw = cc in
      record {
        form = λ e. of_more line x rest v c cs is;
        number = λ e. absurd (let clash : Form ≡ Number = f ∙ e in cc);
        missing = λ e. absurd (let clash : Form ≡ Missing = f ∙ e in cc);
      }

  flaw_by : (line : List ℕ) (flaw : Flaw) (r : Result (A × List ℕ) Flaw) → at (32 ∷ line) ≡ r → Stops {A = A} (r >>= ended) flaw → IsFlawOfLine version part line flaw
  flaw_by line flaw (Err e) is h = let same : e ≡ flaw = cc in of_fails line flaw (g.fails (32 ∷ line) flaw refl (is ∙ ap Err same))
  flaw_by line flaw (Ok x) is h = ended_by line flaw x.0 x.1 (g.gives (32 ∷ line) x.0 x.1 refl is) x.1 refl h

  pub flaw_of : (line : List ℕ) (flaw : Flaw) → Stops {A = A} (at (32 ∷ line) >>= ended) flaw → IsFlawOfLine version part line flaw
  flaw_of line flaw h = flaw_by line flaw (at (32 ∷ line)) refl h

  whole_by : (line : List ℕ) (y : A) (r : Result (A × List ℕ) Flaw) → at (32 ∷ line) ≡ r → (r >>= ended) ≡ Ok y → BeginsLine version part (32 ∷ line)
  whole_by line y (Err e) is h = absurd (cc)
  whole_by line y (Ok x) is h =
      let v = g.gives (32 ∷ line) x.0 x.1 refl is in
      let e = ended_gives x.0 y x.1 h in
      let bytes : 32 ∷ line ≡ spaced (lines v.shape) = v.bytes_are ∙ ap (λ (xs : List ℕ). spaced (lines v.shape) ++ xs) e.1 ∙ append-nil (spaced (lines v.shape)) in
      subst (BeginsLine version part) (sym bytes) (front_begins v.shape v.holds (lines v.shape) [] (sym (append-nil (lines v.shape))) v.right)

  pub whole_begins : (line : List ℕ) (y : A) → (at (32 ∷ line) >>= ended) ≡ Ok y → BeginsLine version part (32 ∷ line)
  whole_begins line y h = whole_by line y (at (32 ∷ line)) refl h

-- Which lines may follow a part.

-- the word at the front of a part
begins_none : (first later : List ℕ) → [] ≡ first ++ (10 ∷ later) → ⊥
begins_none first later h = no_line first later (sym h)

same_head : (c d : ℕ) (xs ys : List ℕ) → c ∷ xs ≡ d ∷ ys → c ≡ d
same_head c d xs ys h = cc

sat_not_unsat : (xs ys zs ws : List ℕ) → (codes "sat" ++ xs) ++ (10 ∷ ys) ≡ (codes "unsat" ++ zs) ++ (10 ∷ ws) → ⊥
sat_not_unsat xs ys zs ws h = let clash : 115 ≡ 117 = same_head 115 117 _ _ h in absurd (omega (arith, clash))

next_of : (lines others : List CertLine) (l : CertLine) (a : Awaited) → Completes a (lines ++ l ∷ others) → IsNext l (after_lines lines a)
next_of [] others l a h = h.1.0
next_of (m ∷ lines) others l a h = next_of lines others l (awaited_after m a) h.1.1

module _ {bits : Bool} (version : ℕ) (known : IsVersion bits version) where
  same_lines : (lines others more fill : List CertLine) (a : Awaited) → Completes a (lines ++ more) → Completes a (others ++ fill) → AreLines version lines → AreLines version others
      → flat_map line_text lines ≡ flat_map line_text others → lines ≡ others
  same_lines [] [] more fill a h k p q e = refl
  same_lines [] (m ∷ others) more fill a h k p q e = absurd (begins_none (line_items m) (flat_map line_text others) (e ∙ append_assoc (line_items m) (10 ∷ []) (flat_map line_text others)))
  same_lines (l ∷ lines) [] more fill a h k p q e = absurd (begins_none (line_items l) (flat_map line_text lines) (sym e ∙ append_assoc (line_items l) (10 ∷ []) (flat_map line_text lines)))
  same_lines (l ∷ lines) (m ∷ others) more fill a h k p q e =
      let there : line_items l ++ (10 ∷ flat_map line_text lines) ≡ line_items m ++ (10 ∷ flat_map line_text others) =
      sym (append_assoc (line_items l) (10 ∷ []) (flat_map line_text lines)) ∙ e ∙ append_assoc (line_items m) (10 ∷ []) (flat_map line_text others) in
      let parts = cut_at (line_items l) (line_items m) _ _ (items_plain version known a l p.ranges.0 p.fits.0) (items_plain version known a m q.ranges.0 q.fits.0) there in
      let both : Ok l ≡ Ok m = sym (line_reads version known a l h.1.0 p.ranges.0 p.fits.0) ∙ ap (line_at version a) parts.0 ∙ line_reads version known a m k.1.0 q.ranges.0 q.fits.0 in
      let same : l ≡ m = cc in
      let others_same = same_lines lines others more fill (awaited_after l a) h.1.1 (subst (λ (x : CertLine). Completes (awaited_after x a) (others ++ fill)) (sym same) k.1.1)
      (record { ranges = p.ranges.1; fits = p.fits.1 }) (record { ranges = q.ranges.1; fits = q.fits.1 }) parts.1 in
      ap (λ (x : CertLine). x ∷ lines) same ∙ ap (λ (xs : List CertLine). m ∷ xs) others_same

  module _ (wanted : ℕ) (part : List ℕ) (p : Progress) where
    -- the first line of an entry
    opening_from : part ≡ [] → (items : List Item) → MayFollow version part items → IsLineOf first_items (λ _. Unit {0}) items
    opening_from none items (first_line e start is) = record { line = e; holds = tt; items_are = is }
    opening_from none items (value_line_next values left v some text is) = absurd (begins_none (codes "sat" ++ number (length values + left)) (flat_map value_line values) (sym none ∙ text))
    opening_from none items (refutation_line_next lines others l ranges fits own order few text is) = absurd (begins_none (codes "unsat" ++ number (clauses (lines ++ l ∷ others))) (flat_map line_text lines) (sym none ∙ text))

    pub opening_flaw : part ≡ [] → (line : List ℕ) (flaw : Flaw) → opening_at line ≡ Err flaw → IsFlawOfLine version part line flaw
    unfolding opening_at
    opening_flaw none line flaw h =
        flaw_of version part (word_at opening_form) first_items opening_of (λ _. Unit {0}) first_gradual (λ e q. first_line e none refl) (opening_from none) line flaw (rw (blank_item line) h)

    pub opening_whole : part ≡ [] → (line : List ℕ) (o : Opening) → opening_at line ≡ Ok o → BeginsLine version part (32 ∷ line)
    unfolding opening_at
    opening_whole none line o h =
        whole_begins version part (word_at opening_form) first_items opening_of (λ _. Unit {0}) first_gradual (λ e q. first_line e none refl) (opening_from none) line o (rw (blank_item line) h)

    -- a line of values
    value_from : (left : ℕ) → InValues wanted left part p → (items : List Item) → MayFollow version part items → IsLineOf value_items (λ _. Unit {0}) items
    value_from left h items (first_line e start is) = absurd (begins_none (codes "sat" ++ number (length p.values + left)) (flat_map value_line p.values) (sym start ∙ h.text_is))
    value_from left h items (value_line_next values more v some text is) = record { line = v; holds = tt; items_are = is }
    value_from left h items (refutation_line_next lines others l ranges fits own order few text is) = absurd (sat_not_unsat (number (length p.values + left)) (flat_map value_line p.values) (number (clauses (lines ++ l ∷ others))) (flat_map line_text lines) (sym h.text_is ∙ text))

    value_follows : (left : ℕ) → InValues wanted left part p → (v : ℕ × ℕ) → Unit {0} → MayFollow version part (value_items v)
    value_follows left h v q = value_line_next p.values left v h.some h.text_is refl

    -- the test for the end comes within the test of the word
    value_by : (is : Bool) (bytes : List ℕ) → (let r : Result (ℕ × ℕ) Flaw = (if is then (narrow_at bytes >>= λ n. wide_at n.1 >>= λ x. Ok ((n.0, x.0), x.1)) else Err Form) >>= ended in r)
        ≡ (if is then (narrow_at bytes >>= λ n. wide_at n.1 >>= λ x. ended ((n.0, x.0), x.1)) else Err Form)
    value_by true bytes = by (narrow_at bytes)
      where
        by_second : (n : ℕ) (q : Result (ℕ × List ℕ) Flaw) → (let r : Result (ℕ × ℕ) Flaw = (q >>= λ x. Ok ((n, x.0), x.1)) >>= ended in r) ≡ (q >>= λ x. ended ((n, x.0), x.1))
        by_second n (Err e) = refl
        by_second n (Ok x) = refl

        by : (q : Result (ℕ × List ℕ) Flaw) → (let r : Result (ℕ × ℕ) Flaw = (q >>= λ n. wide_at n.1 >>= λ x. Ok ((n.0, x.0), x.1)) >>= ended in r) ≡ (q >>= λ n. wide_at n.1 >>= λ x. ended ((n.0, x.0), x.1))
        by (Err e) = refl
        by (Ok n) = by_second n.0 (wide_at n.1)
    value_by false bytes = refl

    value_read : (line : List ℕ) → (word_at value_form (32 ∷ line) >>= ended) ≡ value_at line
    unfolding value_at
    value_read line = rw (blank_item line) (value_by (bytes_eq (first_item line) (codes "=")) (behind_item line))

    pub value_flaw : (left : ℕ) → InValues wanted left part p → (line : List ℕ) (flaw : Flaw) → value_at line ≡ Err flaw → IsFlawOfLine version part line flaw
    value_flaw left h line flaw e =
        flaw_of version part (word_at value_form) value_items (λ v. v) (λ _. Unit {0}) value_gradual (value_follows left h) (value_from left h) line flaw (value_read line ∙ e)

    pub value_whole : (left : ℕ) → InValues wanted left part p → (line : List ℕ) (v : ℕ × ℕ) → value_at line ≡ Ok v → BeginsLine version part (32 ∷ line)
    value_whole left h line v e =
        whole_begins version part (word_at value_form) value_items (λ v. v) (λ _. Unit {0}) value_gradual (value_follows left h) (value_from left h) line v (value_read line ∙ e)

    -- a line of a refutation
    module _ (a : Awaited) (h : InLines version wanted a part p) where
      refutation_from : (items : List Item) → MayFollow version part items → IsLineOf items_of (MayCome version known a) items
      refutation_from items (first_line e start is) = absurd (begins_none (codes "unsat" ++ number h.count) (flat_map line_text p.lines) (sym start ∙ h.text_is))
      refutation_from items (value_line_next values more v some text is) =
          absurd (sat_not_unsat (number (length values + more)) (flat_map value_line values) (number h.count) (flat_map line_text p.lines) (sym text ∙ h.text_is))
      refutation_from items (refutation_line_next lines others l ranges fits own order few text is) =
          let n = clauses (lines ++ l ∷ others) in
          let parts = cut_at (codes "unsat" ++ number n) (codes "unsat" ++ number h.count) (flat_map line_text lines) (flat_map line_text p.lines) (refl, (refl, (refl, (refl, (refl, narrow_plain n few))))) (refl, (refl, (refl, (refl, (refl, narrow_plain h.count h.few)))))
          (sym text ∙ h.text_is) in
          let both : Ok (openings.Refutation n) ≡ Ok (openings.Refutation h.count) = sym (unsat_reads n few) ∙ ap opening_at parts.0 ∙ unsat_reads h.count h.few in
          let count : n ≡ h.count = cc in
          let f = filled version a in
          let completes = subst (λ (m : ℕ). Completes (awaiting m 0 0) (lines ++ l ∷ others)) count (clauses_complete order) in
          let same = same_lines lines p.lines (l ∷ others) f.lines (awaiting h.count 0 0) completes (h.leads f.lines f.completes) (record { ranges = ranges; fits = fits }) h.lines parts.1 in
          let next : IsNext l (after_lines p.lines (awaiting h.count 0 0)) = subst (λ (xs : List CertLine). IsNext l (after_lines xs (awaiting h.count 0 0))) same (next_of lines others l (awaiting h.count 0 0) completes) in
          record { line = l; holds = (subst (λ (b : Awaited). IsNext l b) (sym h.reached) next, own); items_are = is }

      refutation_follows : (l : CertLine) → MayCome version known a l → MayFollow version part (items_of l)
      refutation_follows l q =
          let f = filled version (awaited_after l a) in
          let lines : List CertLine = p.lines ++ l ∷ f.lines in
          let c = clauses_shape h.count lines (h.leads (l ∷ f.lines) (h.more, (q.0, f.completes))) in
          refutation_line_next p.lines f.lines l h.lines.ranges h.lines.fits q.1 c.order (subst IsNarrow (sym c.count) h.few)
          (h.text_is ∙ ap (λ (n : ℕ). (codes "unsat" ++ number n) ++ (10 ∷ flat_map line_text p.lines)) (sym c.count)) refl

      pub refutation_flaw : (line : List ℕ) (flaw : Flaw) → line_at version a line ≡ Err flaw → IsFlawOfLine version part line flaw
      unfolding line_at
      refutation_flaw line flaw e =
          flaw_of version part (word_at (form_at version a)) items_of (λ l. l) (MayCome version known a) (line_gradual version known a) refutation_follows refutation_from line flaw (rw (blank_item line) e)

      pub refutation_whole : (line : List ℕ) (l : CertLine) → line_at version a line ≡ Ok l → BeginsLine version part (32 ∷ line)
      unfolding line_at
      refutation_whole line l e =
          whole_begins version part (word_at (form_at version a)) items_of (λ l. l) (MayCome version known a) (line_gradual version known a) refutation_follows refutation_from line l (rw (blank_item line) e)
