-- The text of entries is read back.
use Rattle.std.proofs.Common.{◌≡◌, ℕ, ◌+◌, ◌-◌, ◌<◌, ◌≤◌, ◌==◌, Bool, true, false, List, [], ◌∷◌, ◌++◌, length, take, Result, Ok, inl, inr, refl, sym, ap, ◌∙◌, subst, arith, append_assoc, length-append}
use Rattle.std.specs.Prelude.{codes, decimal, nat_lt}
use Rattle.std.specs.List.{AllByRecursion, flat_map, slice_split, onto_first}
use Rattle.std.proofs.lemmas.List.{append-nil, take_all}
use Rattle.std.proofs.lemmas.List.Splits.{slice_split-cons_yes, slice_split-cons_no}
use Rattle.std.proofs.lemmas.Bool.Decides.{nat_tests}
use Rattle.std.proofs.lemmas.Fmt.{decimal_digit}
use Rattle.ffc_cert.specs.declared.TheConstants.{MAX_BYTES}
use Rattle.ffc_cert.specs.declared.flaws.Flaw.{Flaw}
use Rattle.ffc_cert.specs.declared.entries.CertLine.{CertLine}
use Rattle.ffc_cert.specs.declared.entries.Entry.{Entry}
use Rattle.ffc_cert.specs.declared.entries.Entry.TheVariants.{Sat, UnsatCases, UnsatSteps, Unknown}
use Rattle.ffc_cert.specs.declared.entries.Numbered.{Numbered}
use Rattle.ffc_cert.specs.declared.forms.Awaited.{Awaited}
use Rattle.ffc_cert.specs.declared.progress.Place.TheVariants.{Header, Between, Assignment, Refutation}
use Rattle.ffc_cert.specs.declared.progress.Progress.{Progress}
use Rattle.ffc_cert.specs.Lines.{line_at, value_at, opening_at}
use Rattle.ffc_cert.specs.Reading.{Reading, Complete, with_entry, Next, Move, Give, awaited_after, is_whole, given, begun, with_value, with_line, limited, after, named, header_line, opening_line, assignment_line, refutation_line, next_in, next_at, read, read_parts, read_text, reading_of, origin, is_line_end, end_at, is_complete, end_after}
use Rattle.ffc_cert.specs.Spelling.{number, line_items, line_text, value_line, clauses, entry_text, header, text_of}
use Rattle.ffc_cert.specs.Ranges.{IsLine, IsValue}
use Rattle.ffc_cert.specs.WellFormed.{LineFitsVersion, IsReadable}
use Rattle.ffc_cert.specs.Laws.{IsVersion, line_count, numbered_from, ReadsBack, ReadsBackFirst}
use Rattle.ffc_cert.proofs.Codes.{IsPlain}
use Rattle.ffc_cert.proofs.LineCodes.{line_reads, items_plain}
use Rattle.ffc_cert.proofs.GrammarLemmas.{awaiting, Completes, clauses_complete}
use Rattle.ffc_cert.proofs.OpeningCodes.{value_items, value_plain, value_reads}
use Rattle.ffc_cert.proofs.PrefixLemmas.{AreLines, first_of, body_of, opening_of, entry_is, first_plain, first_reads, regroup}
use Rattle.ffc_cert.proofs.ReadLemmas.{after_next, through}
use Rattle.ffc_cert.proofs.SplitLemmas.{parts_of}
use Rattle.ffc_cert.proofs.GivenLemmas.{entry_length}

pub split_line : (line rest : List ℕ) → IsPlain line → slice_split is_line_end (line ++ (10 ∷ rest)) ≡ line ∷ slice_split is_line_end rest
split_line [] rest h = slice_split-cons_yes is_line_end 10 rest refl
split_line (c ∷ line) rest h = slice_split-cons_no is_line_end c (line ++ (10 ∷ rest)) h.0 ∙ ap (onto_first c) (split_line line rest h.1)

-- a text that begins with this line
line_read : (wanted : ℕ) (p : Progress) (line rest : List ℕ) (n : Next) → IsPlain line → length line ≤ MAX_BYTES → next_in p.place wanted p line ≡ n
    → read_text wanted p (line ++ (10 ∷ rest)) ≡ after_next n (λ q. read_text wanted q rest)
unfolding next_at
line_read wanted p line rest n plain short h =
    let seen : next_at wanted p line ≡ n = ap (λ (xs : List ℕ). next_in p.place wanted p xs) (take_all (MAX_BYTES + 1) line (omega arith)) ∙ h in
    ap (λ (ps : List (List ℕ)). read_parts wanted p ps) (split_line line rest plain) ∙ through wanted p line rest n seen (parts_of is_line_end rest)

judged : {A : Type 0} (line : List ℕ) (p : Progress) (r : Result A Flaw) (x : A) (next : A → Next) → r ≡ Ok x → p.bytes + (length line + 1) ≤ MAX_BYTES
    → after (limited line p r) next ≡ next x
unfolding limited
judged line p r x next h fits = let short : nat_lt MAX_BYTES (p.bytes + (length line + 1)) ≡ false = grind (arith, nat_tests, fits) in rw (h, short) refl

abbrev pub between : Bool → ℕ → ℕ → ℕ → Progress
between bits version complete line = record { bits = bits; version = version; place = Between; complete = complete; line = line; first_line = line; bytes = 0; values = []; lines = [] }

some_test : (n m : ℕ) → (n ≡ m → ⊥) → (n == m) ≡ false
some_test n m h = grind (arith, nat_tests, h)

-- the size of a line with its LF and of what follows it
sizes : (line body : List ℕ) → length ((line ++ (10 ∷ [])) ++ body) ≡ (length line + 1) + length body
sizes line body = omega (arith, length-append (line ++ (10 ∷ [])) body, length-append line (10 ∷ []))

module _ (bits : Bool) (version : ℕ) (known : IsVersion bits version) (wanted complete first : ℕ) where
  abbrev in_values : ℕ → ℕ → ℕ → List (ℕ × ℕ) → Progress
  in_values line bytes left done = record { bits = bits; version = version; place = Assignment left; complete = complete; line = line; first_line = first; bytes = bytes; values = done; lines = [] }

  abbrev in_lines : ℕ → ℕ → Awaited → List CertLine → Progress
  in_lines line bytes a done = record { bits = bits; version = version; place = Refutation a; complete = complete; line = line; first_line = first; bytes = bytes; values = []; lines = done }

  abbrev gave : Entry → Numbered
  gave e = record { number = complete + 1; first_line = first; entry = e }

  value_next : (line bytes left : ℕ) (done : List (ℕ × ℕ)) (v : ℕ × ℕ) → IsValue v → bytes + (length (value_items v) + 1) ≤ MAX_BYTES
      → next_in (Assignment left) wanted (in_values line bytes left done) (value_items v) ≡ with_value left (length (value_items v) + 1) (in_values line bytes left done) v
  unfolding next_in assignment_line
  value_next line bytes left done v h fits =
      judged (value_items v) (in_values line bytes left done) (value_at (value_items v)) v (with_value left (length (value_items v) + 1) (in_values line bytes left done)) (value_reads v h) fits

  last_value : (line bytes left : ℕ) (done : List (ℕ × ℕ)) (v : ℕ × ℕ) (size : ℕ) → left ≡ 1
      → with_value left size (in_values line bytes left done) v ≡ Give (gave (Sat (done ++ v ∷ []))) (between bits version (complete + 1) (line + 1))
  unfolding with_value
  last_value line bytes left done v size one = let test : (left == 1) ≡ true = grind (arith, nat_tests, one) in rw test refl

  next_value : (line bytes left more : ℕ) (done : List (ℕ × ℕ)) (v : ℕ × ℕ) (size : ℕ) → left ≡ more + 1 → 0 < more
      → with_value left size (in_values line bytes left done) v ≡ Move (in_values (line + 1) (bytes + size) more (done ++ v ∷ []))
  unfolding with_value
  next_value line bytes left more done v size count some =
      let test : (left == 1) ≡ false = some_test left 1 (λ one. omega arith) in
      let less : left - 1 ≡ more = omega arith in
      rw (test, less) refl

  values_read : (values : List (ℕ × ℕ)) (v : ℕ × ℕ) (line bytes : ℕ) (done : List (ℕ × ℕ)) (rest : List ℕ) → AllByRecursion IsValue (v ∷ values)
      → bytes + length (flat_map value_line (v ∷ values)) ≤ MAX_BYTES
      → read_text wanted (in_values line bytes (length (v ∷ values)) done) (flat_map value_line (v ∷ values) ++ rest)
      ≡ with_entry (gave (Sat (done ++ (v ∷ values)))) (read_text wanted (between bits version (complete + 1) (line + length (v ∷ values))) rest)
  values_read [] v line bytes done rest h short =
      let size = sizes (value_items v) [] in
      let p = in_values line bytes (length (v ∷ [])) done in
      let next = value_next line bytes (length (v ∷ [])) done v h.0 (omega arith) ∙ last_value line bytes (length (v ∷ [])) done v (length (value_items v) + 1) refl in
      ap (read_text wanted p) (regroup (value_items v) [] rest)
      ∙ line_read wanted p (value_items v) rest (Give (gave (Sat (done ++ v ∷ []))) (between bits version (complete + 1) (line + 1))) (value_plain v h.0) (omega arith) next
  values_read (w ∷ values) v line bytes done rest h short =
      let size = sizes (value_items v) (flat_map value_line (w ∷ values)) in
      let p = in_values line bytes (length (v ∷ w ∷ values)) done in
      let q = in_values (line + 1) (bytes + (length (value_items v) + 1)) (length (w ∷ values)) (done ++ v ∷ []) in
      let next : next_in (Assignment (length (v ∷ w ∷ values))) wanted p (value_items v) ≡ Move q =
      value_next line bytes (length (v ∷ w ∷ values)) done v h.0 (omega arith)
      ∙ next_value line bytes (length (v ∷ w ∷ values)) (length (w ∷ values)) done v (length (value_items v) + 1) (omega arith) (omega arith) in
      let further = values_read values w (line + 1) (bytes + (length (value_items v) + 1)) (done ++ v ∷ []) rest h.1 (omega arith) in
      ap (read_text wanted p) (regroup (value_items v) (flat_map value_line (w ∷ values)) rest)
      ∙ line_read wanted p (value_items v) (flat_map value_line (w ∷ values) ++ rest) (Move q) (value_plain v h.0) (omega arith) next
      ∙ further
      ∙ ap (λ (xs : List (ℕ × ℕ)). with_entry (gave (Sat xs)) (read_text wanted (between bits version (complete + 1) ((line + 1) + length (w ∷ values))) rest)) (append_assoc done (v ∷ []) (w ∷ values))
      ∙ ap (λ (n : ℕ). with_entry (gave (Sat (done ++ (v ∷ w ∷ values)))) (read_text wanted (between bits version (complete + 1) n) rest)) (omega arith)

  line_next : (line bytes : ℕ) (a : Awaited) (done : List CertLine) (l : CertLine) (lines : List CertLine) → Completes a (l ∷ lines) → IsLine l → LineFitsVersion version l
      → bytes + (length (line_items l) + 1) ≤ MAX_BYTES
      → next_in (Refutation a) wanted (in_lines line bytes a done) (line_items l) ≡ with_line a (length (line_items l) + 1) (in_lines line bytes a done) l
  unfolding next_in refutation_line
  line_next line bytes a done l lines h holds fits_version fits =
      judged (line_items l) (in_lines line bytes a done) (line_at version a (line_items l)) l (with_line a (length (line_items l) + 1) (in_lines line bytes a done))
      (line_reads version known a l h.1.0 holds fits_version) fits

  last_line : (line bytes : ℕ) (a : Awaited) (done : List CertLine) (l : CertLine) (size : ℕ) → is_whole (awaited_after l a) ≡ true
      → with_line a size (in_lines line bytes a done) l ≡ Give (gave (UnsatSteps (done ++ l ∷ []))) (between bits version (complete + 1) (line + 1))
  unfolding with_line
  last_line line bytes a done l size over = rw over refl

  next_line : (line bytes : ℕ) (a : Awaited) (done : List CertLine) (l : CertLine) (size : ℕ) → is_whole (awaited_after l a) ≡ false
      → with_line a size (in_lines line bytes a done) l ≡ Move (in_lines (line + 1) (bytes + size) (awaited_after l a) (done ++ l ∷ []))
  unfolding with_line
  next_line line bytes a done l size more = rw more refl

  lines_read : (lines : List CertLine) (l : CertLine) (a : Awaited) (line bytes : ℕ) (done : List CertLine) (rest : List ℕ) → Completes a (l ∷ lines) → AreLines version (l ∷ lines)
      → bytes + length (flat_map line_text (l ∷ lines)) ≤ MAX_BYTES
      → read_text wanted (in_lines line bytes a done) (flat_map line_text (l ∷ lines) ++ rest)
      ≡ with_entry (gave (UnsatSteps (done ++ (l ∷ lines)))) (read_text wanted (between bits version (complete + 1) (line + length (l ∷ lines))) rest)
  lines_read [] l a line bytes done rest h are short =
      let size = sizes (line_items l) [] in
      let p = in_lines line bytes a done in
      let next = line_next line bytes a done l [] h are.ranges.0 are.fits.0 (omega arith) ∙ last_line line bytes a done l (length (line_items l) + 1) h.1.1 in
      ap (read_text wanted p) (regroup (line_items l) [] rest)
      ∙ line_read wanted p (line_items l) rest (Give (gave (UnsatSteps (done ++ l ∷ []))) (between bits version (complete + 1) (line + 1))) (items_plain version known a l are.ranges.0 are.fits.0) (omega arith) next
  lines_read (m ∷ lines) l a line bytes done rest h are short =
      let size = sizes (line_items l) (flat_map line_text (m ∷ lines)) in
      let p = in_lines line bytes a done in
      let q = in_lines (line + 1) (bytes + (length (line_items l) + 1)) (awaited_after l a) (done ++ l ∷ []) in
      let next : next_in (Refutation a) wanted p (line_items l) ≡ Move q =
      line_next line bytes a done l (m ∷ lines) h are.ranges.0 are.fits.0 (omega arith) ∙ next_line line bytes a done l (length (line_items l) + 1) h.1.1.0 in
      let further = lines_read lines m (awaited_after l a) (line + 1) (bytes + (length (line_items l) + 1)) (done ++ l ∷ []) rest h.1.1 (record { ranges = are.ranges.1; fits = are.fits.1 }) (omega arith) in
      ap (read_text wanted p) (regroup (line_items l) (flat_map line_text (m ∷ lines)) rest)
      ∙ line_read wanted p (line_items l) (flat_map line_text (m ∷ lines) ++ rest) (Move q) (items_plain version known a l are.ranges.0 are.fits.0) (omega arith) next
      ∙ further
      ∙ ap (λ (xs : List CertLine). with_entry (gave (UnsatSteps xs)) (read_text wanted (between bits version (complete + 1) ((line + 1) + length (m ∷ lines))) rest)) (append_assoc done (l ∷ []) (m ∷ lines))
      ∙ ap (λ (n : ℕ). with_entry (gave (UnsatSteps (done ++ (l ∷ m ∷ lines)))) (read_text wanted (between bits version (complete + 1) n) rest)) (omega arith)

nothing_left : (n : ℕ) → n ≡ 0 → is_whole (awaiting n 0 0) ≡ false → ⊥
unfolding is_whole
nothing_left n none more = let clash : is_whole (awaiting 0 0 0) ≡ false = subst (λ m. is_whole (awaiting m 0 0) ≡ false) none more in absurd (let no : true ≡ false = clash in cc)

-- One entry.
module _ (bits : Bool) (version : ℕ) (known : IsVersion bits version) (wanted complete line : ℕ) (some : complete < wanted) where
  opening_next : (e : Entry) → IsReadable version e → next_in Between wanted (between bits version complete line) (first_of e) ≡ begun (length (first_of e) + 1) (between bits version complete line) (opening_of e)
  unfolding next_in opening_line
  opening_next e h =
      let test : (complete == wanted) ≡ false = some_test complete wanted (λ same. omega arith) in
      let size = entry_length e in
      rw test (judged (first_of e) (between bits version complete line) (opening_at (first_of e)) (opening_of e) (begun (length (first_of e) + 1) (between bits version complete line))
      (first_reads version e h.well_formed) (omega (arith, size, h.short)))

  abbrev gives : Entry → List ℕ → Reading
  gives e rest = with_entry (record { number = complete + 1; first_line = line; entry = e }) (read_text wanted (between bits version (complete + 1) (line + line_count e)) rest)

  -- the state after the first line, and the reading of the body
  opened : (e : Entry) (rest : List ℕ) (n : Next) → IsReadable version e → begun (length (first_of e) + 1) (between bits version complete line) (opening_of e) ≡ n
      → after_next n (λ q. read_text wanted q (body_of e ++ rest)) ≡ gives e rest → read_text wanted (between bits version complete line) (entry_text e ++ rest) ≡ gives e rest
  opened e rest n h leads k =
      let size = entry_length e in
      ap (λ (xs : List ℕ). read_text wanted (between bits version complete line) (xs ++ rest)) (entry_is e)
      ∙ ap (read_text wanted (between bits version complete line)) (append_assoc (first_of e) (10 ∷ body_of e) rest)
      ∙ line_read wanted (between bits version complete line) (first_of e) (body_of e ++ rest) n (first_plain version e h.well_formed) (omega (arith, size, h.short)) (opening_next e h ∙ leads)
      ∙ k

  entry_read : (e : Entry) (rest : List ℕ) → IsReadable version e → read_text wanted (between bits version complete line) (entry_text e ++ rest) ≡ gives e rest
  unfolding begun
  entry_read UnsatCases rest h = opened UnsatCases rest (given UnsatCases (between bits version complete line)) h refl refl
  entry_read (Unknown cause) rest h = opened (Unknown cause) rest (given (Unknown cause) (between bits version complete line)) h refl refl
  entry_read (Sat []) rest h = opened (Sat []) rest (given (Sat []) (between bits version complete line)) h refl refl
  entry_read (Sat (v ∷ values)) rest h =
      let e = Sat (v ∷ values) in
      let size = entry_length e in
      let test : (length (v ∷ values) == 0) ≡ false = some_test (length (v ∷ values)) 0 (λ none. omega arith) in
      let q = in_values bits version known wanted complete line (line + 1) (0 + (length (first_of e) + 1)) (length (v ∷ values)) [] in
      opened e rest (Move q) h (rw test refl)
      (values_read bits version known wanted complete line values v (line + 1) (0 + (length (first_of e) + 1)) [] rest h.well_formed.each (omega (arith, size, h.short))
      ∙ ap (λ (n : ℕ). with_entry (record { number = complete + 1; first_line = line; entry = e }) (read_text wanted (between bits version (complete + 1) n) rest)) (omega arith))
  entry_read (UnsatSteps []) rest h = opened (UnsatSteps []) rest (given (UnsatSteps []) (between bits version complete line)) h refl refl
  entry_read (UnsatSteps (l ∷ lines)) rest h =
      let e = UnsatSteps (l ∷ lines) in
      let size = entry_length e in
      let whole = clauses_complete h.well_formed.order in
      let test : (clauses (l ∷ lines) == 0) ≡ false = some_test (clauses (l ∷ lines)) 0 (λ none. nothing_left (clauses (l ∷ lines)) none whole.0) in
      let q = in_lines bits version known wanted complete line (line + 1) (0 + (length (first_of e) + 1)) (awaiting (clauses (l ∷ lines)) 0 0) [] in
      opened e rest (Move q) h (rw test refl)
      (lines_read bits version known wanted complete line lines l (awaiting (clauses (l ∷ lines)) 0 0) (line + 1) (0 + (length (first_of e) + 1)) [] rest whole
      (record { ranges = h.well_formed.ranges; fits = h.well_formed.fits }) (omega (arith, size, h.short))
      ∙ ap (λ (n : ℕ). with_entry (record { number = complete + 1; first_line = line; entry = e }) (read_text wanted (between bits version (complete + 1) n) rest)) (omega arith))

-- All entries.
abbrev with_entries : List Numbered → Reading → Reading
with_entries xs r = record { entries = xs ++ r.entries; end = r.end }

abbrev line_after : ℕ → List Entry → ℕ
line_after line [] = line
line_after line (e ∷ entries) = line_after (line + line_count e) entries

entries_read : (bits : Bool) (version : ℕ) (known : IsVersion bits version) (wanted : ℕ) (entries : List Entry) (complete line : ℕ) (rest : List ℕ) → complete + length entries ≤ wanted
    → AllByRecursion (IsReadable version) entries
    → read_text wanted (between bits version complete line) (flat_map entry_text entries ++ rest)
    ≡ with_entries (numbered_from (complete + 1) line entries) (read_text wanted (between bits version (complete + length entries) (line_after line entries)) rest)
entries_read bits version known wanted [] complete line rest few h = ap (λ (n : ℕ). read_text wanted (between bits version n line) rest) (omega arith)
entries_read bits version known wanted (e ∷ entries) complete line rest few h =
    let x : Numbered = record { number = complete + 1; first_line = line; entry = e } in
    ap (read_text wanted (between bits version complete line)) (append_assoc (entry_text e) (flat_map entry_text entries) rest)
    ∙ entry_read bits version known wanted complete line (omega arith) e (flat_map entry_text entries ++ rest) h.0
    ∙ ap (with_entry x) (entries_read bits version known wanted entries (complete + 1) (line + line_count e) rest (omega arith) h.1)
    ∙ ap (λ (n : ℕ). with_entry x (with_entries (numbered_from ((complete + 1) + 1) (line + line_count e) entries) (read_text wanted (between bits version n (line_after (line + line_count e) entries)) rest))) (omega arith)

header_line_read : (bits : Bool) (version : ℕ) (wanted : ℕ) (rest line : List ℕ) → header version ≡ line ++ (10 ∷ []) → IsPlain line → length line ≤ MAX_BYTES
    → next_in Header wanted (origin bits) line ≡ Move (named version (origin bits)) → read_text wanted (origin bits) (header version ++ rest) ≡ read_text wanted (between bits version 0 2) rest
header_line_read bits version wanted rest line text plain short next =
    ap (λ (xs : List ℕ). read_text wanted (origin bits) (xs ++ rest)) text
    ∙ ap (read_text wanted (origin bits)) (append_assoc line (10 ∷ []) rest)
    ∙ line_read wanted (origin bits) line rest (Move (named version (origin bits))) plain short next

header_is : (version : ℕ) (line : List ℕ) → codes "ffcert " ++ decimal version ≡ line → header version ≡ line ++ (10 ∷ [])
header_is version line h = ap (λ (xs : List ℕ). xs ++ (10 ∷ [])) h

pub header_read : (bits : Bool) (version : ℕ) → IsVersion bits version → (wanted : ℕ) (rest : List ℕ) → read_text wanted (origin bits) (header version ++ rest) ≡ read_text wanted (between bits version 0 2) rest
unfolding next_in header_line
header_read bits version (inl one) wanted rest =
    header_line_read bits version wanted rest (codes "ffcert 1") (header_is version (codes "ffcert 1") (ap (λ (v : ℕ). codes "ffcert " ++ decimal v) one ∙ ap (λ (ds : List ℕ). codes "ffcert " ++ ds) (decimal_digit 1 (omega arith))))
    (refl, (refl, (refl, (refl, (refl, (refl, (refl, (refl, tt)))))))) (omega arith) (rw one refl)
header_read bits version (inr (inl two)) wanted rest =
    header_line_read bits version wanted rest (codes "ffcert 2") (header_is version (codes "ffcert 2") (ap (λ (v : ℕ). codes "ffcert " ++ decimal v) two ∙ ap (λ (ds : List ℕ). codes "ffcert " ++ ds) (decimal_digit 2 (omega arith))))
    (refl, (refl, (refl, (refl, (refl, (refl, (refl, (refl, tt)))))))) (omega arith) (rw two refl)
header_read bits version (inr (inr three)) wanted rest =
    header_line_read bits version wanted rest (codes "ffcert 3") (header_is version (codes "ffcert 3") (ap (λ (v : ℕ). codes "ffcert " ++ decimal v) three.0 ∙ ap (λ (ds : List ℕ). codes "ffcert " ++ ds) (decimal_digit 3 (omega arith))))
    (refl, (refl, (refl, (refl, (refl, (refl, (refl, (refl, tt)))))))) (omega arith) (rw (three.0, three.1) refl)

-- a text of entries with more after it
text_read : (bits : Bool) (version : ℕ) (entries : List Entry) (wanted : ℕ) (more : List ℕ) → IsVersion bits version → AllByRecursion (IsReadable version) entries → length entries ≤ wanted
    → reading_of bits wanted (text_of version entries ++ more)
    ≡ with_entries (numbered_from 1 2 entries) (read_text wanted (between bits version (0 + length entries) (line_after 2 entries)) more)
unfolding text_of
text_read bits version entries wanted more known h few =
    ap (read_text wanted (origin bits)) (append_assoc (header version) (flat_map entry_text entries) more)
    ∙ header_read bits version known wanted (flat_map entry_text entries ++ more)
    ∙ entries_read bits version known wanted entries 0 2 more (omega arith) h

over : (bits : Bool) (version complete line wanted : ℕ) → complete ≡ wanted → read_text wanted (between bits version complete line) [] ≡ record { entries = []; end = Complete }
unfolding read end_at is_complete end_after
over bits version complete line wanted same = let test : (complete == wanted) ≡ true = grind (arith, nat_tests, same) in rw test refl

pub reads_back : ReadsBack
reads_back bits version entries known h =
    let whole = text_read bits version entries (length entries) [] known h (omega arith) in
    ap (reading_of bits (length entries)) (sym (append-nil (text_of version entries)))
    ∙ whole
    ∙ ap (with_entries (numbered_from 1 2 entries)) (over bits version (0 + length entries) (line_after 2 entries) (length entries) (omega arith))
    ∙ ap (λ (xs : List Numbered). record { entries = xs; end = Complete }) (append-nil (numbered_from 1 2 entries))

listed : (entries : List Entry) (number line : ℕ) (others : List Numbered) → take (length entries) (numbered_from number line entries ++ others) ≡ numbered_from number line entries
listed [] number line others = refl
listed (e ∷ entries) number line others =
    ap (λ (xs : List Numbered). record { number = number; first_line = line; entry = e } ∷ xs) (listed entries (number + 1) (line + line_count e) others)

pub reads_back_first : ReadsBackFirst
reads_back_first bits version entries wanted more known h few =
    ap (λ (r : Reading). take (length entries) r.entries) (text_read bits version entries wanted more known h few)
    ∙ listed entries 1 2 (read_text wanted (between bits version (0 + length entries) (line_after 2 entries)) more).entries
