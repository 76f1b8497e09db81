-- A text's fault is that of its first line at fault.
use Rattle.std.proofs.Common.{◌≡◌, ℕ, zero, suc, ◌+◌, ◌<◌, ◌≤◌, ◌^◌, Bool, true, false, cond, List, [], ◌∷◌, ◌++◌, length, take, ltb, Option, Some, None, inl, inr, refl, sym, ap, ◌∙◌, subst, arith, append_assoc, append-nil, length-append}
use Rattle.std.specs.Prelude.{codes, nat_lt, nat_eq, ◌&&◌, if◌then◌else◌}
use Rattle.std.specs.List.{AllByRecursion, flat_map, position_or_len, before_first, after_first, starts_with}
use Rattle.std.specs.Str.{bytes_eq}
use Rattle.std.proofs.lemmas.Bool.{ltb-true, ltb-false}
use Rattle.std.proofs.lemmas.Bool.Decides.{nat_tests}
use Rattle.std.proofs.lemmas.List.{take_all, length-take}
use Rattle.std.proofs.lemmas.List.Concat.{flat_map-append}
use Rattle.std.proofs.lemmas.Slice.Eq.{bytes_eq-Decides}
use Rattle.ffc_cert.specs.declared.TheConstants.{MAX_BYTES}
use Rattle.ffc_cert.specs.declared.entries.CertFault.{CertFault}
use Rattle.ffc_cert.specs.declared.entries.Entry.{Entry}
use Rattle.ffc_cert.specs.declared.entries.Numbered.{Numbered}
use Rattle.ffc_cert.specs.declared.progress.Place.{Place}
use Rattle.ffc_cert.specs.declared.progress.Place.TheVariants.{Header, Between, Assignment, Refutation}
use Rattle.ffc_cert.specs.declared.progress.Progress.{Progress}
use Rattle.ffc_cert.specs.Reading.{Reading, End, Complete, Open, Stopped, Next, Halt, Move, Give, fault_at, entry_number, named, header_line, next_in, next_at, read_text, reading_of, origin, is_line_end, end_at, cut_end, end_after, is_complete}
use Rattle.ffc_cert.specs.Spelling.{number, entry_text, header, text_of}
use Rattle.ffc_cert.specs.WellFormed.{IsReadable}
use Rattle.ffc_cert.specs.Certificate.{version_of}
use Rattle.ffc_cert.specs.Laws.{IsVersion}
use Rattle.ffc_cert.specs.FirstFault.{lines_of, ended_line, HasLine, seen_line, IsJudged, AreFaultless, IsWrong, after_last, form, long, IsUnended, IsFirstAfter, IsFaultOf, FaultsAreFirst}
use Rattle.ffc_cert.proofs.Codes.{IsPlain}
use Rattle.ffc_cert.proofs.NumberCodes.{narrow_code}
use Rattle.ffc_cert.proofs.ReadLemmas.{after_next}
use Rattle.ffc_cert.proofs.RestLemmas.{long_halts, both_true}
use Rattle.ffc_cert.proofs.GivenLemmas.{with_end, all_push, At, IsInside, IsGood, IsMoved, IsGiven, next_good}
use Rattle.ffc_cert.proofs.BackLemmas.{header_read, between}
use Rattle.ffc_cert.proofs.TextLemmas.{NoVersion, no_version, has_header, never_named, behind_inside}
use Rattle.ffc_cert.proofs.GoesOnLemmas.{either, line_here, read_alone, after_shorter}
use Rattle.ffc_cert.proofs.FillLemmas.{part_begun}
use Rattle.ffc_cert.proofs.NextLines.{spread}
use Rattle.ffc_cert.proofs.FaultLemmas.{line_plain, line_split, count_more, IsBad, IsHaltAt, over, within, line_halts, entry_after}

-- after these lines of a text, none of which is at fault
record IsAhead (version wanted : ℕ) (entries : List Entry) (part front : List ℕ) (p : Progress) : Type 0 where
  inside : IsInside version wanted part p
  complete : p.complete ≡ length entries
  line : p.line ≡ lines_of front + 1
  short : p.bytes ≤ MAX_BYTES
  readable : AllByRecursion (IsReadable version) entries
  text_is : front ≡ text_of version entries ++ part
  body : List ℕ
  ends : front ≡ ended_line body

text_more : (version : ℕ) (entries : List Entry) (e : Entry) → text_of version (entries ++ e ∷ []) ≡ text_of version entries ++ entry_text e
unfolding text_of
text_more version entries e =
    ap (λ (xs : List ℕ). header version ++ xs) (flat_map-append entry_text entries (e ∷ []) ∙ ap (λ (xs : List ℕ). flat_map entry_text entries ++ xs) (append-nil (entry_text e)))
    ∙ sym (append_assoc (header version) (flat_map entry_text entries) (entry_text e))

module _ (bits : Bool) (version : ℕ) (known : IsVersion bits version) (wanted : ℕ) where
  right : (entries : List Entry) (part front : List ℕ) (p : Progress) → IsAhead version wanted entries part front p → AreFaultless bits version entries part front
  right entries part front p h =
      let b = part_begun version wanted part p p.place h.inside.at in
      record {
        known = known;
        readable = h.readable;
        begun = b.begun;
        unfinished = b.unfinished;
        short = omega (arith, h.short, h.inside.bytes);
        text_is = h.text_is;
        body = h.body;
        ends = h.ends;
      }

  ahead_moved : (entries : List Entry) (part front line : List ℕ) (p q : Progress) → IsAhead version wanted entries part front p → lines_of (front ++ ended_line line) ≡ lines_of front + 1
      → IsMoved version wanted (part ++ with_end line) p q → IsAhead version wanted entries (part ++ ended_line line) (front ++ ended_line line) q
  ahead_moved entries part front line p q h count m = record {
    inside = m.inside;
    complete = m.complete ∙ h.complete;
    line = omega (arith, m.line, h.line, count);
    short = m.short;
    readable = h.readable;
    text_is = ap (λ (xs : List ℕ). xs ++ ended_line line) h.text_is ∙ append_assoc (text_of version entries) part (ended_line line);
    body = front ++ line;
    ends = sym (append_assoc front line (10 ∷ []));
  }

  ahead_given : (entries : List Entry) (part front line : List ℕ) (p : Progress) (x : Numbered) (q : Progress) → IsAhead version wanted entries part front p → lines_of (front ++ ended_line line) ≡ lines_of front + 1
      → IsGiven version wanted (part ++ with_end line) p x q → IsAhead version wanted (entries ++ x.entry ∷ []) [] (front ++ ended_line line) q
  ahead_given entries part front line p x q h count g = record {
    inside = g.inside;
    complete = omega (arith, g.complete, h.complete, length-append entries (x.entry ∷ []));
    line = omega (arith, g.line, h.line, count);
    short = omega (arith, g.inside.bytes);
    readable = all_push (IsReadable version) entries x.entry h.readable g.readable;
    text_is = ap (λ (xs : List ℕ). xs ++ ended_line line) h.text_is ∙ append_assoc (text_of version entries) part (ended_line line)
        ∙ ap (λ (xs : List ℕ). text_of version entries ++ xs) (sym g.text_is) ∙ sym (text_more version entries x.entry) ∙ sym (append-nil (text_of version (entries ++ x.entry ∷ [])));
    body = front ++ line;
    ends = sym (append_assoc front line (10 ∷ []));
  }

  -- the end of a reading after line 1
  abbrev IsEndOf : List ℕ → End → Type 0
  IsEndOf text Complete = Unit {0}
  IsEndOf text (Open fault) = IsFirstAfter bits (λ version count part rest code. IsUnended wanted count rest code) text fault
  IsEndOf text (Stopped fault) = IsFirstAfter bits (IsWrong wanted) text fault

  some_bytes : (bytes : List ℕ) → IsJudged bytes → 0 < length bytes
  some_bytes bytes (inl lt) = omega (arith, lt)
  some_bytes bytes (inr lt) = omega (arith, lt)

  module _ (entries : List Entry) (part front : List ℕ) (p : Progress) (bytes text : List ℕ) (h : IsAhead version wanted entries part front p) (is : text ≡ front ++ bytes) where
    wrong_at : (code : ℕ) (fault : CertFault) → fault ≡ record { entry = p.complete + 1; line = p.line; code = code } → IsWrong wanted version (length entries) part bytes code → IsFirstAfter bits (IsWrong wanted) text fault
    wrong_at code fault fault_is w = record {
      version = version;
      entries = entries;
      part = part;
      front = front;
      rest = bytes;
      right = right entries part front p h;
      text_is = is;
      entry = ap (λ (f : CertFault). f.entry) fault_is ∙ ap (λ (n : ℕ). n + 1) h.complete;
      line = ap (λ (f : CertFault). f.line) fault_is ∙ h.line;
      wrong = subst (IsWrong wanted version (length entries) part bytes) (sym (ap (λ (f : CertFault). f.code) fault_is)) w;
    }

    bad_wrong : IsJudged bytes → (code : ℕ) → p.complete < wanted → IsBad version part (seen_line bytes) code → IsWrong wanted version (length entries) part bytes code
    bad_wrong judged code lt (inl b) = form (omega (arith, lt, h.complete)) judged b
    bad_wrong judged code lt (inr b) = long (omega (arith, lt, h.complete)) judged b

    halted : IsJudged bytes → (fault : CertFault) → IsHaltAt version wanted part (seen_line bytes) p fault → IsFirstAfter bits (IsWrong wanted) text fault
    halted judged fault (over all none fault_is) = wrong_at 2 fault fault_is (after_last (sym h.complete ∙ all) none (some_bytes bytes judged) refl)
    halted judged fault (within b) = wrong_at b.code fault b.fault_is (bad_wrong judged b.code b.awaited b.bad)

    halts_here : IsJudged bytes → (fault : CertFault) → next_in p.place wanted p (seen_line bytes) ≡ Halt fault → IsFirstAfter bits (IsWrong wanted) text fault
    halts_here judged fault k = halted judged fault (line_halts version known wanted part p bytes h.inside fault k)

    all_seen : length bytes ≤ position_or_len is_line_end bytes → before_first is_line_end bytes ≡ bytes
    all_seen alone = take_all (position_or_len is_line_end bytes) bytes alone

    -- too many bytes for a line
    cut_judged : length bytes ≤ position_or_len is_line_end bytes → MAX_BYTES < length bytes → (n : Next) → next_at wanted p bytes ≡ n → IsEndOf text (cut_end n p)
    unfolding cut_end next_at
    cut_judged alone many (Halt fault) e =
        halts_here (inr many) fault (ap (λ (xs : List ℕ). next_in p.place wanted p (take (MAX_BYTES + 1) xs)) (all_seen alone) ∙ e)
    cut_judged alone many (Move q) e = absurd (long_halts wanted p bytes (Move q) many e)
    cut_judged alone many (Give x q) e = absurd (long_halts wanted p bytes (Give x q) many e)

    awaited_at : (place : Place) → At version wanted place part p → is_complete place p.complete wanted ≡ false → p.complete < wanted
    unfolding is_complete
    awaited_at Header k e = absurd k
    awaited_at Between k e = let few = k.few in grind (arith, nat_tests, e, few)
    awaited_at (Assignment left) k e = k.0.awaited
    awaited_at (Refutation a) k e = k.0.awaited

    fault_here : (code : ℕ) → fault_at code p ≡ record { entry = p.complete + 1; line = p.line; code = code }
    fault_here code = ap (λ (n : ℕ). record { entry = n; line = p.line; code = code }) (entry_after version wanted part p p.place h.inside.at)

    after_last_end : (rest : List ℕ) → bytes ≡ rest → is_complete p.place p.complete wanted ≡ true → IsEndOf text (end_after rest p)
    unfolding end_after
    after_last_end [] e all = tt
    after_last_end (c ∷ cs) e all =
        let b = behind_inside version wanted part p p.place h.inside.at all in
        let some : 0 < length bytes = omega (arith, ap (λ (xs : List ℕ). length xs) e) in
        wrong_at 2 (fault_at 2 p) (fault_here 2) (after_last (sym h.complete ∙ b.1) b.0 some refl)

    open_end : length bytes ≤ position_or_len is_line_end bytes → length bytes ≤ MAX_BYTES → is_complete p.place p.complete wanted ≡ false → IsEndOf text (Open (fault_at 4 p))
    open_end alone few more =
        let lt = awaited_at p.place h.inside.at more in
        record {
          version = version;
          entries = entries;
          part = part;
          front = front;
          rest = bytes;
          right = right entries part front p h;
          text_is = is;
          entry = ap (λ (f : CertFault). f.entry) (fault_here 4) ∙ ap (λ (n : ℕ). n + 1) h.complete;
          line = h.line;
          wrong = record { awaited = omega (arith, lt, h.complete); unended = alone; short = few; code_is = refl };
        }

    -- the last bytes, which have no LF
    alone_end : length bytes ≤ position_or_len is_line_end bytes → IsEndOf text (end_at wanted p bytes)
    unfolding end_at
    alone_end alone = by_size (nat_lt MAX_BYTES (length bytes)) refl (is_complete p.place p.complete wanted) refl
      where
        by_size : (cut : Bool) → nat_lt MAX_BYTES (length bytes) ≡ cut → (all : Bool) → is_complete p.place p.complete wanted ≡ all
            → IsEndOf text (cond cut (cut_end (next_at wanted p bytes) p) (cond all (end_after bytes p) (Open (fault_at 4 p))))
        by_size true e all f = cut_judged alone (ltb-true MAX_BYTES (length bytes) e) (next_at wanted p bytes) refl
        by_size false e true f = after_last_end bytes refl f
        by_size false e false f = open_end alone (ltb-false MAX_BYTES (length bytes) e) f

    read_alone_end : length bytes ≤ position_or_len is_line_end bytes → IsEndOf text (read_text wanted p bytes).end
    read_alone_end alone = subst (λ (r : Reading). IsEndOf text r.end) (sym (read_alone wanted p bytes alone)) (alone_end alone)

    rest_is : HasLine bytes → text ≡ (front ++ ended_line (before_first is_line_end bytes)) ++ after_first is_line_end bytes
    rest_is lt = is ∙ ap (λ (xs : List ℕ). front ++ xs) (line_split bytes lt) ∙ sym (spread front (before_first is_line_end bytes) (after_first is_line_end bytes))

    -- a line at the front
    line_judged : HasLine bytes → (n : Next) → next_at wanted p (before_first is_line_end bytes) ≡ n → IsGood version wanted (part ++ with_end (before_first is_line_end bytes)) p n
        → ((es : List Entry) (t f : List ℕ) (q : Progress) → IsAhead version wanted es t f q → text ≡ f ++ after_first is_line_end bytes → IsEndOf text (read_text wanted q (after_first is_line_end bytes)).end)
        → IsEndOf text (after_next n (λ q. read_text wanted q (after_first is_line_end bytes))).end
    unfolding next_at
    line_judged lt (Halt fault) e good more = halts_here (inl lt) fault e
    line_judged lt (Move q) e good more =
        let line = before_first is_line_end bytes in
        more entries (part ++ ended_line line) (front ++ ended_line line) q (ahead_moved entries part front line p q h (count_more front line (line_plain bytes)) good) (rest_is lt)
    line_judged lt (Give x q) e good more =
        let line = before_first is_line_end bytes in
        more (entries ++ x.entry ∷ []) [] (front ++ ended_line line) q (ahead_given entries part front line p x q h (count_more front line (line_plain bytes)) good) (rest_is lt)

  ahead_end : (n : ℕ) (entries : List Entry) (part front : List ℕ) (p : Progress) (bytes text : List ℕ) → length bytes ≤ n → IsAhead version wanted entries part front p → text ≡ front ++ bytes
      → IsEndOf text (read_text wanted p bytes).end
  ahead_end zero entries part front p bytes text few h is = read_alone_end entries part front p bytes text h is (omega arith)
  ahead_end (suc n) entries part front p bytes text few h is = elim (either (ltb (position_or_len is_line_end bytes) (length bytes))) [
    | inr t ↦ read_alone_end entries part front p bytes text h is (ltb-false (position_or_len is_line_end bytes) (length bytes) t)
    | inl t ↦
        let lt = ltb-true (position_or_len is_line_end bytes) (length bytes) t in
        subst (λ (r : Reading). IsEndOf text r.end) (sym (line_here wanted p bytes lt))
        (line_judged entries part front p bytes text h is lt (next_at wanted p (before_first is_line_end bytes)) refl
        (next_good version known wanted part p (before_first is_line_end bytes) h.inside)
        (λ es t f q k e. ahead_end n es t f q (after_first is_line_end bytes) text (after_shorter n bytes few lt) k e))
  ]

-- Line 1.

narrow_tail : (version : ℕ) → version < 2 ^ 32 → IsPlain (codes "ffcert" ++ number version)
narrow_tail version h = (refl, (refl, (refl, (refl, (refl, (refl, narrow_code.plain version h))))))

header_plain : {bits : Bool} (version : ℕ) → IsVersion bits version → IsPlain (codes "ffcert" ++ number version)
header_plain version (inl one) = narrow_tail version (omega (arith, one))
header_plain version (inr (inl two)) = narrow_tail version (omega (arith, two))
header_plain version (inr (inr three)) = let v = three.0 in narrow_tail version (omega (arith, v))

header_count : {bits : Bool} (version : ℕ) → IsVersion bits version → lines_of (header version) ≡ 1
header_count version known = count_more [] (codes "ffcert" ++ number version) (header_plain version known)

no_entries : (version : ℕ) → text_of version [] ≡ header version
unfolding text_of
no_entries version = append-nil (header version)

-- the text goes on after line 1
after_header : (bits : Bool) (version : ℕ) (known : IsVersion bits version) (wanted : ℕ) (rest text : List ℕ) → text ≡ header version ++ rest → IsEndOf bits version known wanted text (reading_of bits wanted text).end
after_header bits version known wanted rest text is =
    let start : IsAhead version wanted [] [] (header version) (between bits version 0 2) = record {
      inside = record { version_is = refl; bytes = refl; at = record { text_is = refl; values = refl; lines = refl; line = refl; few = omega arith } };
      complete = refl;
      line = omega (arith, header_count version known);
      short = omega arith;
      readable = tt;
      text_is = sym (append-nil (text_of version []) ∙ no_entries version);
      body = codes "ffcert" ++ number version;
      ends = refl;
    } in
    subst (λ (r : Reading). IsEndOf bits version known wanted text r.end) (sym (ap (reading_of bits wanted) is ∙ header_read bits version known wanted rest))
    (ahead_end bits version known wanted (length rest) [] [] (header version) (between bits version 0 2) rest text (omega arith) start is)

end_fault : (bits : Bool) (version : ℕ) (known : IsVersion bits version) (wanted : ℕ) (text : List ℕ) (end : End) → IsEndOf bits version known wanted text end → IsFaultOf bits wanted text end
end_fault bits version known wanted text Complete h = tt
end_fault bits version known wanted text (Open fault) h = inr h
end_fault bits version known wanted text (Stopped fault) h = inr h

-- no version is named
module _ (bits : Bool) (wanted : ℕ) (text : List ℕ) (none : NoVersion bits text) where
  not_seen : (line : List ℕ) → length line ≤ MAX_BYTES → starts_with nat_eq text (ended_line line) ≡ false → HasLine text → seen_line text ≡ line → ⊥
  not_seen line few other lt same = never_named line (seen_line text) (before_first is_line_end text) (after_first is_line_end text) text (line_split text lt) refl few same other

  too_long : (line : List ℕ) → length line ≤ MAX_BYTES → length text ≤ position_or_len is_line_end text → MAX_BYTES < length text → seen_line text ≡ line → ⊥
  too_long line few alone many same =
      let whole : before_first is_line_end text ≡ text = take_all (position_or_len is_line_end text) text alone in
      let seen : take (MAX_BYTES + 1) text ≡ line = ap (λ (xs : List ℕ). take (MAX_BYTES + 1) xs) (sym whole) ∙ same in
      omega (arith, few, many, length-take (MAX_BYTES + 1) text, ap (λ (xs : List ℕ). length xs) seen)

  never : (line : List ℕ) → length line ≤ MAX_BYTES → starts_with nat_eq text (ended_line line) ≡ false → IsJudged text → seen_line text ≡ line → ⊥
  never line few other (inl lt) same = not_seen line few other lt same
  never line few other (inr many) same = elim (either (ltb (position_or_len is_line_end text) (length text))) [
    | inl t ↦ not_seen line few other (ltb-true (position_or_len is_line_end text) (length text) t) same
    | inr t ↦ too_long line few (ltb-false (position_or_len is_line_end text) (length text) t) many same
  ]

  -- a line that is no line 1 of a version
  is_not : IsJudged text → (line : List ℕ) → length line ≤ MAX_BYTES → starts_with nat_eq text (ended_line line) ≡ false → bytes_eq (seen_line text) line ≡ true → ⊥
  is_not judged line few other e = never line few other judged ((bytes_eq-Decides (seen_line text) line).0 e)

  header_halts : IsJudged text → (one two three : Bool) → bytes_eq (seen_line text) (codes "ffcert 1") ≡ one → bytes_eq (seen_line text) (codes "ffcert 2") ≡ two
      → (bits && bytes_eq (seen_line text) (codes "ffcert 3")) ≡ three → (n : Next)
      → (if one then Move (named 1 (origin bits)) else if two then Move (named 2 (origin bits)) else if three then Move (named 3 (origin bits)) else Halt (fault_at 1 (origin bits))) ≡ n → n ≡ Halt (fault_at 1 (origin bits))
  header_halts judged true two three e f g n h = absurd (is_not judged (codes "ffcert 1") (omega arith) none.one e)
  header_halts judged false true three e f g n h = absurd (is_not judged (codes "ffcert 2") (omega arith) none.two f)
  header_halts judged false false true e f g n h =
      let k = both_true bits (bytes_eq (seen_line text) (codes "ffcert 3")) g in
      absurd (is_not judged (codes "ffcert 3") (omega arith) (none.three k.0) k.1)
  header_halts judged false false false e f g n h = sym h

  header_fault : IsJudged text → IsFaultOf bits wanted text (Stopped (fault_at 1 (origin bits)))
  unfolding entry_number
  header_fault judged = inl (record {
    fault_is = refl;
    judged = judged;
    not_one = never (codes "ffcert 1") (omega arith) none.one judged;
    not_two = never (codes "ffcert 2") (omega arith) none.two judged;
    not_three = λ known. never (codes "ffcert 3") (omega arith) (none.three known) judged;
  })

  header_next : IsJudged text → next_in Header wanted (origin bits) (seen_line text) ≡ Halt (fault_at 1 (origin bits))
  unfolding next_in header_line
  header_next judged = header_halts judged (bytes_eq (seen_line text) (codes "ffcert 1")) (bytes_eq (seen_line text) (codes "ffcert 2")) (bits && bytes_eq (seen_line text) (codes "ffcert 3")) refl refl refl (header_line (origin bits) (seen_line text)) refl

  unnamed_line : HasLine text → IsFaultOf bits wanted text (reading_of bits wanted text).end
  unfolding next_at
  unnamed_line lt =
      let next : next_at wanted (origin bits) (before_first is_line_end text) ≡ Halt (fault_at 1 (origin bits)) = header_next (inl lt) in
      subst (λ (r : Reading). IsFaultOf bits wanted text r.end) (sym (line_here wanted (origin bits) text lt ∙ ap (λ (n : Next). after_next n (λ q. read_text wanted q (after_first is_line_end text))) next))
      (header_fault (inl lt))

  unnamed_end : length text ≤ position_or_len is_line_end text → (cut : Bool) → nat_lt MAX_BYTES (length text) ≡ cut
      → IsFaultOf bits wanted text (cond cut (cut_end (next_at wanted (origin bits) text) (origin bits)) (cond false (end_after text (origin bits)) (Open (fault_at 4 (origin bits)))))
  unfolding cut_end next_at entry_number
  unnamed_end alone true e =
      let many = ltb-true MAX_BYTES (length text) e in
      let whole : before_first is_line_end text ≡ text = take_all (position_or_len is_line_end text) text alone in
      let next : next_at wanted (origin bits) text ≡ Halt (fault_at 1 (origin bits)) =
      ap (λ (xs : List ℕ). next_in Header wanted (origin bits) (take (MAX_BYTES + 1) xs)) (sym whole) ∙ header_next (inr many) in
      rw next (header_fault (inr many))
  unnamed_end alone false e = inl (record { fault_is = refl; unended = alone; short = ltb-false MAX_BYTES (length text) e })

  unnamed_alone : length text ≤ position_or_len is_line_end text → IsFaultOf bits wanted text (reading_of bits wanted text).end
  unfolding end_at is_complete
  unnamed_alone alone = subst (λ (r : Reading). IsFaultOf bits wanted text r.end) (sym (read_alone wanted (origin bits) text alone)) (unnamed_end alone (nat_lt MAX_BYTES (length text)) refl)

  unnamed : IsFaultOf bits wanted text (reading_of bits wanted text).end
  unnamed = elim (either (ltb (position_or_len is_line_end text) (length text))) [
    | inl t ↦ unnamed_line (ltb-true (position_or_len is_line_end text) (length text) t)
    | inr t ↦ unnamed_alone (ltb-false (position_or_len is_line_end text) (length text) t)
  ]

by_version : (bits : Bool) (wanted : ℕ) (text : List ℕ) (v : Option ℕ) → version_of bits text ≡ v → IsFaultOf bits wanted text (reading_of bits wanted text).end
by_version bits wanted text None e = unnamed bits wanted text (no_version bits text e)
by_version bits wanted text (Some version) e =
    let h = has_header bits text version e in
    end_fault bits version h.known wanted text (reading_of bits wanted text).end (after_header bits version h.known wanted h.rest text h.text_is)

pub faults_are_first : FaultsAreFirst
faults_are_first bits wanted text = by_version bits wanted text (version_of bits text) refl
