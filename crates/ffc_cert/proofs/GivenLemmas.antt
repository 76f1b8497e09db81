-- Each line leads on in the text of an entry: the entry that it completes is well formed and not too long, and has this text.
use Rattle.std.proofs.Common.{◌≡◌, ℕ, ◌+◌, ◌-◌, ◌<◌, ◌≤◌, ◌==◌, ◌^◌, Bool, true, false, List, [], ◌∷◌, ◌++◌, length, take, min, Result, Ok, Err, refl, sym, ap, ◌∙◌, subst, arith, append_assoc, length-append}
use Rattle.std.specs.Prelude.{codes, nat_lt, if◌then◌else◌}
use Rattle.std.specs.List.{AllByRecursion, flat_map}
use Rattle.std.proofs.lemmas.List.{append-nil, length-take, take_all}
use Rattle.std.proofs.lemmas.List.Concat.{flat_map-append}
use Rattle.std.proofs.lemmas.Bool.Decides.{nat_tests}
use Rattle.ffc_cert.specs.declared.TheConstants.{MAX_BYTES}
use Rattle.ffc_cert.specs.declared.flaws.Flaw.{Flaw}
use Rattle.ffc_cert.specs.declared.entries.CertLine.{CertLine}
use Rattle.ffc_cert.specs.declared.entries.CertFault.{CertFault}
use Rattle.ffc_cert.specs.declared.entries.Entry.{Entry}
use Rattle.ffc_cert.specs.declared.entries.Entry.TheVariants.{Sat, UnsatCases, UnsatSteps, Unknown}
use Rattle.ffc_cert.specs.declared.entries.Numbered.{Numbered}
use Rattle.ffc_cert.specs.declared.forms.Awaited.{Awaited}
use Rattle.ffc_cert.specs.declared.forms.Opening.{Opening}
use Rattle.ffc_cert.specs.declared.forms.Opening.TheVariants as openings
use Rattle.ffc_cert.specs.declared.progress.Place.{Place}
use Rattle.ffc_cert.specs.declared.progress.Place.TheVariants.{Header, Between, Assignment, Refutation}
use Rattle.ffc_cert.specs.declared.progress.Progress.{Progress}
use Rattle.ffc_cert.specs.Lines.{line_at, value_at, opening_at}
use Rattle.ffc_cert.specs.Reading.{Next, Halt, Move, Give, awaited_after, is_whole, fault_at, moved, given, begun, with_value, with_line, limited, after, opening_line, assignment_line, refutation_line, next_in, next_at}
use Rattle.ffc_cert.specs.Spelling.{number, line_items, line_text, value_line, clauses, entry_text}
use Rattle.ffc_cert.specs.Ranges.{IsNarrow, IsLine, IsValue}
use Rattle.ffc_cert.specs.Grammar.{no_clauses}
use Rattle.ffc_cert.specs.WellFormed.{LineFitsVersion, IsRefutation, IsWellFormed, IsReadable}
use Rattle.ffc_cert.specs.Laws.{IsVersion, line_count}
use Rattle.ffc_cert.proofs.NumberCodes.{is_same, differs}
use Rattle.ffc_cert.proofs.LineCodes.{IsNext, line_gives}
use Rattle.ffc_cert.proofs.GrammarLemmas.{awaiting, Completes, clauses_shape}
use Rattle.ffc_cert.proofs.OpeningCodes.{value_items, value_gives, IsOpeningText, opening_gives}
use Rattle.ffc_cert.proofs.PrefixLemmas.{AreLines, first_of, body_of, entry_is}

pub all_push : {A : Type 0} (P : A → Type 0) (xs : List A) (x : A) → AllByRecursion P xs → P x → AllByRecursion P (xs ++ x ∷ [])
all_push P [] x h k = (k, tt)
all_push P (y ∷ xs) x h k = (h.0, all_push P xs x h.1 k)

length_push : {A : Type 0} (xs : List A) (x : A) → length (xs ++ x ∷ []) ≡ length xs + 1
length_push xs x = length-append xs (x ∷ [])

-- a line with its LF
abbrev pub with_end : List ℕ → List ℕ
with_end line = line ++ 10 ∷ []

-- lines after a first one, and one more
pub grown : {A : Type 0} (text : A → List ℕ) (items : A → List ℕ) (first : List ℕ) (xs : List A) (x : A) → text x ≡ items x ++ 10 ∷ []
    → first ++ (10 ∷ flat_map text (xs ++ x ∷ [])) ≡ (first ++ (10 ∷ flat_map text xs)) ++ with_end (items x)
grown text items first xs x h =
    let parts = flat_map-append text xs (x ∷ []) in
    let last : flat_map text (x ∷ []) ≡ with_end (items x) = append-nil (text x) ∙ h in
    ap (λ (ys : List ℕ). first ++ (10 ∷ ys)) (parts ∙ ap (λ (ys : List ℕ). flat_map text xs ++ ys) last)
    ∙ sym (append_assoc first (10 ∷ flat_map text xs) (with_end (items x)))

-- what is needed after lines
abbrev pub after_lines : List CertLine → Awaited → Awaited
after_lines [] a = a
after_lines (l ∷ lines) a = after_lines lines (awaited_after l a)

after_more : (lines : List CertLine) (l : CertLine) (a : Awaited) → after_lines (lines ++ l ∷ []) a ≡ awaited_after l (after_lines lines a)
after_more [] l a = refl
after_more (m ∷ lines) l a = after_more lines l (awaited_after m a)

-- In an assignment, with so many values left, after this text of the entry.
pub record InValues (wanted left : ℕ) (text : List ℕ) (p : Progress) : Type 0 where
  pub some : 0 < left
  pub few : length p.values + left < 2 ^ 32
  pub each : AllByRecursion IsValue p.values
  pub text_is : text ≡ (codes "sat" ++ number (length p.values + left)) ++ (10 ∷ flat_map value_line p.values)
  pub line : p.line ≡ p.first_line + (length p.values + 1)
  pub awaited : p.complete < wanted

-- In a refutation that needs these lines.
pub record InLines (version wanted : ℕ) (a : Awaited) (text : List ℕ) (p : Progress) : Type 0 where
  pub count : ℕ
  pub few : IsNarrow count
  pub more : is_whole a ≡ false
  pub reached : a ≡ after_lines p.lines (awaiting count 0 0)
  pub leads : (lines : List CertLine) → Completes a lines → Completes (awaiting count 0 0) (p.lines ++ lines)
  pub lines : AreLines version p.lines
  pub text_is : text ≡ (codes "unsat" ++ number count) ++ (10 ∷ flat_map line_text p.lines)
  pub line : p.line ≡ p.first_line + (length p.lines + 1)
  pub awaited : p.complete < wanted

pub record IsBetween (wanted : ℕ) (text : List ℕ) (p : Progress) : Type 0 where
  pub text_is : text ≡ []
  pub values : p.values ≡ []
  pub lines : p.lines ≡ []
  pub line : p.line ≡ p.first_line
  pub few : p.complete ≤ wanted

abbrev pub At : ℕ → ℕ → Place → List ℕ → Progress → Type 0
At version wanted Header text p = ⊥
At version wanted Between text p = IsBetween wanted text p
At version wanted (Assignment left) text p = InValues wanted left text p × (p.lines ≡ [])
At version wanted (Refutation a) text p = InLines version wanted a text p × (p.values ≡ [])

-- after line 1, and after this text of an entry
pub record IsInside (version wanted : ℕ) (text : List ℕ) (p : Progress) : Type 0 where
  pub version_is : p.version ≡ version
  pub bytes : p.bytes ≡ length text
  pub at : At version wanted p.place text p

pub inside_few : (version wanted : ℕ) (text : List ℕ) (p : Progress) (place : Place) → At version wanted place text p → p.complete ≤ wanted
inside_few version wanted text p Header h = absurd h
inside_few version wanted text p Between h = h.few
inside_few version wanted text p (Assignment left) h = let lt = h.0.awaited in omega (arith, lt)
inside_few version wanted text p (Refutation a) h = let lt = h.0.awaited in omega (arith, lt)

-- the entry goes on
pub record IsMoved (version wanted : ℕ) (text : List ℕ) (p q : Progress) : Type 0 where
  pub complete : q.complete ≡ p.complete
  pub line : q.line ≡ p.line + 1
  pub first_line : q.first_line ≡ p.first_line
  pub short : q.bytes ≤ MAX_BYTES
  pub inside : IsInside version wanted text q

-- the entry ends
pub record IsGiven (version wanted : ℕ) (text : List ℕ) (p : Progress) (x : Numbered) (q : Progress) : Type 0 where
  pub readable : IsReadable version x.entry
  pub text_is : entry_text x.entry ≡ text
  pub number : x.number ≡ p.complete + 1
  pub first_line : x.first_line ≡ p.first_line
  pub complete : q.complete ≡ p.complete + 1
  pub line : q.line ≡ p.line + 1
  pub next_line : q.first_line ≡ p.first_line + line_count x.entry
  pub inside : IsInside version wanted [] q

-- the state after a line, with which the entry has this text
abbrev pub IsGood : ℕ → ℕ → List ℕ → Progress → Next → Type 0
IsGood version wanted text p (Halt fault) = Unit {0}
IsGood version wanted text p (Move q) = IsMoved version wanted text p q
IsGood version wanted text p (Give entry q) = IsGiven version wanted text p entry q

module _ (version wanted : ℕ) (text : List ℕ) (p : Progress) where
  good_if : (b : Bool) (n m : Next) → (b ≡ true → IsGood version wanted text p n) → (b ≡ false → IsGood version wanted text p m) → IsGood version wanted text p (if b then n else m)
  good_if true n m f g = f refl
  good_if false n m f g = g refl

  good_after : {A : Type 0} (r : Result A CertFault) (next : A → Next) → ((x : A) → r ≡ Ok x → IsGood version wanted text p (next x)) → IsGood version wanted text p (after r next)
  good_after (Err fault) next f = tt
  good_after (Ok x) next f = f x refl

record IsLimited {A : Type 0} (line : List ℕ) (p : Progress) (r : Result A Flaw) (x : A) : Type 0 where
  is : r ≡ Ok x
  fits : p.bytes + (length line + 1) ≤ MAX_BYTES

abbrev the_judged : {A : Type 0} → Result A CertFault → A → Type 0
the_judged r x = r ≡ Ok x

limited_by : {A : Type 0} (line : List ℕ) (p : Progress) (y x : A) (over : Bool) → nat_lt MAX_BYTES (p.bytes + (length line + 1)) ≡ over
    → the_judged (if over then Err (fault_at 5 p) else Ok y) x → IsLimited line p (Ok y) x
limited_by line p y x true e h = absurd (cc)
limited_by line p y x false e h = record { is = cc; fits = grind (arith, nat_tests, e) }

limited_is : {A : Type 0} (line : List ℕ) (p : Progress) (r : Result A Flaw) (x : A) → limited line p r ≡ Ok x → IsLimited line p r x
unfolding limited
limited_is line p (Err flaw) x h = absurd (cc)
limited_is line p (Ok y) x h = limited_by line p y x (nat_lt MAX_BYTES (p.bytes + (length line + 1))) refl h

length_line : (line body : List ℕ) → length (line ++ (10 ∷ body)) ≡ (length line + 1) + length body
length_line line body = omega (arith, length-append line (10 ∷ body))

-- The length of an entry from its first line and its body.
pub entry_length : (e : Entry) → length (entry_text e) ≡ (length (first_of e) + 1) + length (body_of e)
entry_length e = ap (λ (xs : List ℕ). length xs) (entry_is e) ∙ length_line (first_of e) (body_of e)

no_lines : (version : ℕ) → IsRefutation version []
no_lines version = record { few = omega arith; order = no_clauses; ranges = tt; fits = tt }

no_needs : (n : ℕ) → (n == 0) ≡ false → is_whole (awaiting n 0 0) ≡ false
unfolding is_whole
no_needs n e = rw e refl

positive : (n : ℕ) → (n == 0) ≡ false → 0 < n
positive n e = grind (arith, nat_tests, e)

-- how many bytes there are with a line
more_bytes : (text line : List ℕ) (bytes : ℕ) → bytes ≡ length text → bytes + (length line + 1) ≡ length (text ++ with_end line)
more_bytes text line bytes h = omega (arith, h, length-append text (with_end line), length-append line (10 ∷ []))

module _ {bits : Bool} (version : ℕ) (known : IsVersion bits version) (wanted : ℕ) (text : List ℕ) (p : Progress) (same : p.version ≡ version) (bytes : p.bytes ≡ length text) where
  -- the entry ends with a line
  whole_good : (line : List ℕ) → p.bytes + (length line + 1) ≤ MAX_BYTES → p.complete < wanted → (e : Entry) → IsWellFormed version e → entry_text e ≡ text ++ with_end line
      → p.line + 1 ≡ p.first_line + line_count e → IsGood version wanted (text ++ with_end line) p (given e p)
  whole_good line fits awaited e h text_is lines =
      let size = more_bytes text line p.bytes bytes in
      let length_is : length (entry_text e) ≡ length (text ++ with_end line) = ap (λ (xs : List ℕ). length xs) text_is in
      record {
        readable = record { well_formed = h; short = omega (arith, size, length_is, fits) };
        text_is = text_is;
        number = refl;
        first_line = refl;
        complete = refl;
        line = refl;
        next_line = lines;
        inside = record { version_is = same; bytes = refl; at = record { text_is = refl; values = refl; lines = refl; line = refl; few = omega (arith, awaited) } };
      }

  module _ (start : IsBetween wanted text p) (awaited : p.complete < wanted) (line : List ℕ) (fits : p.bytes + (length line + 1) ≤ MAX_BYTES) where
    behind_none : text ++ with_end line ≡ with_end line
    behind_none = ap (λ (xs : List ℕ). xs ++ with_end line) start.text_is

    alone : (e : Entry) → IsWellFormed version e → line ≡ first_of e → body_of e ≡ [] → line_count e ≡ 1 → IsGood version wanted (text ++ with_end line) p (given e p)
    alone e h first none one =
        let text_is : entry_text e ≡ text ++ with_end line =
        entry_is e ∙ ap (λ (xs : List ℕ). first_of e ++ (10 ∷ xs)) none ∙ ap (λ (xs : List ℕ). with_end xs) (sym first) ∙ sym behind_none in
        whole_good line fits awaited e h text_is (omega (arith, start.line, one))

    values_begin : (n : ℕ) → (line ≡ codes "sat" ++ number n) × IsNarrow n → (n == 0) ≡ false
        → IsMoved version wanted (text ++ with_end line) p (moved (Assignment n) (length line + 1) p)
    values_begin n h e =
        let none : length p.values ≡ 0 = ap (λ (xs : List (ℕ × ℕ)). length xs) start.values in
        let total : n ≡ length p.values + n = omega (arith, none) in
        let text_is : text ++ with_end line ≡ (codes "sat" ++ number (length p.values + n)) ++ (10 ∷ flat_map value_line p.values) =
        behind_none
        ∙ ap (λ (xs : List ℕ). with_end xs) (h.0 ∙ ap (λ (m : ℕ). codes "sat" ++ number m) total)
        ∙ ap (λ (xs : List (ℕ × ℕ)). (codes "sat" ++ number (length p.values + n)) ++ (10 ∷ flat_map value_line xs)) (sym start.values) in
        record {
          complete = refl;
          line = refl;
          first_line = refl;
          short = fits;
          inside = record {
            version_is = same;
            bytes = more_bytes text line p.bytes bytes;
            at = (
              record {
                some = positive n e;
                few = omega (arith, total, h.1);
                each = subst (AllByRecursion IsValue) (sym start.values) tt;
                text_is = text_is;
                line = omega (arith, start.line, none);
                awaited = awaited;
              },
              start.lines,
            );
          };
        }

    lines_begin : (n : ℕ) → (line ≡ codes "unsat" ++ number n) × IsNarrow n → (n == 0) ≡ false
        → IsMoved version wanted (text ++ with_end line) p (moved (Refutation (awaiting n 0 0)) (length line + 1) p)
    lines_begin n h e =
        let none : length p.lines ≡ 0 = ap (λ (xs : List CertLine). length xs) start.lines in
        let text_is : text ++ with_end line ≡ (codes "unsat" ++ number n) ++ (10 ∷ flat_map line_text p.lines) =
        behind_none
        ∙ ap (λ (xs : List ℕ). with_end xs) h.0
        ∙ ap (λ (xs : List CertLine). (codes "unsat" ++ number n) ++ (10 ∷ flat_map line_text xs)) (sym start.lines) in
        record {
          complete = refl;
          line = refl;
          first_line = refl;
          short = fits;
          inside = record {
            version_is = same;
            bytes = more_bytes text line p.bytes bytes;
            at = (
              record {
                count = n;
                few = h.1;
                more = no_needs n e;
                reached = ap (λ (xs : List CertLine). after_lines xs (awaiting n 0 0)) (sym start.lines);
                leads = λ lines k. subst (λ (xs : List CertLine). Completes (awaiting n 0 0) (xs ++ lines)) (sym start.lines) k;
                lines = subst (AreLines version) (sym start.lines) (record { ranges = tt; fits = tt });
                text_is = text_is;
                line = omega (arith, start.line, none);
                awaited = awaited;
              },
              start.values,
            );
          };
        }

    begun_good : (o : Opening) → IsOpeningText line o → IsGood version wanted (text ++ with_end line) p (begun (length line + 1) p o)
    unfolding begun
    begun_good (openings.Assignment n) h =
        good_if version wanted (text ++ with_end line) p (n == 0) (given (Sat []) p) (Move (moved (Assignment n) (length line + 1) p))
        (λ e. let none : n ≡ 0 = is_same n 0 e in
        alone (Sat []) (record { few = omega arith; each = tt }) (h.0 ∙ ap (λ (m : ℕ). codes "sat" ++ number m) none) refl refl)
        (λ e. values_begin n h e)
    begun_good (openings.Refutation n) h =
        good_if version wanted (text ++ with_end line) p (n == 0) (given (UnsatSteps []) p) (Move (moved (Refutation (awaiting n 0 0)) (length line + 1) p))
        (λ e. let none : n ≡ 0 = is_same n 0 e in
        alone (UnsatSteps []) (no_lines version) (h.0 ∙ ap (λ (m : ℕ). codes "unsat" ++ number m) none) refl refl)
        (λ e. lines_begin n h e)
    begun_good (openings.Whole (Sat values)) h = absurd h
    begun_good (openings.Whole UnsatCases) h = alone UnsatCases tt h refl refl
    begun_good (openings.Whole (UnsatSteps lines)) h = absurd h
    begun_good (openings.Whole (Unknown cause)) h = alone (Unknown cause) h.1 h.0 refl refl

  module _ (left : ℕ) (inside : InValues wanted left text p) (none : p.lines ≡ []) (line : List ℕ) (fits : p.bytes + (length line + 1) ≤ MAX_BYTES) (v : ℕ × ℕ) (items : line ≡ value_items v) (holds : IsValue v) where
    pushed : AllByRecursion IsValue (p.values ++ v ∷ [])
    pushed = all_push IsValue p.values v inside.each holds

    -- the text with the value, where so many are left after it
    pushed_text : (n : ℕ) → length p.values + left ≡ n → (codes "sat" ++ number n) ++ (10 ∷ flat_map value_line (p.values ++ v ∷ [])) ≡ text ++ with_end line
    pushed_text n total =
        grown value_line value_items (codes "sat" ++ number n) p.values v refl
        ∙ ap (λ (xs : List ℕ). xs ++ with_end (value_items v)) (ap (λ (m : ℕ). (codes "sat" ++ number m) ++ (10 ∷ flat_map value_line p.values)) (sym total) ∙ sym inside.text_is)
        ∙ ap (λ (xs : List ℕ). text ++ with_end xs) (sym items)

    last_value : left ≡ 1 → IsGood version wanted (text ++ with_end line) p (given (Sat (p.values ++ v ∷ [])) p)
    last_value one =
        let count = length_push p.values v in
        let total : length p.values + left ≡ length (p.values ++ v ∷ []) = omega (arith, count, one) in
        whole_good line fits inside.awaited (Sat (p.values ++ v ∷ [])) (record { few = omega (arith, total, inside.few); each = pushed })
        (entry_is (Sat (p.values ++ v ∷ [])) ∙ pushed_text (length (p.values ++ v ∷ [])) total) (omega (arith, count, inside.line))

    next_value : (left ≡ 1 → ⊥) → IsMoved version wanted (text ++ with_end line) p (record (moved (Assignment (left - 1)) (length line + 1) p) { values = p.values ++ v ∷ [] })
    next_value many =
        let count = length_push p.values v in
        let total : length p.values + left ≡ length (p.values ++ v ∷ []) + (left - 1) = omega (arith, count, inside.some) in
        record {
          complete = refl;
          line = refl;
          first_line = refl;
          short = fits;
          inside = record {
            version_is = same;
            bytes = more_bytes text line p.bytes bytes;
            at = (
              record {
                some = omega (arith, inside.some, many);
                few = omega (arith, total, inside.few);
                each = pushed;
                text_is = sym (pushed_text (length (p.values ++ v ∷ []) + (left - 1)) total);
                line = omega (arith, count, inside.line);
                awaited = inside.awaited;
              },
              none,
            );
          };
        }

    value_good : IsGood version wanted (text ++ with_end line) p (with_value left (length line + 1) p v)
    unfolding with_value
    value_good = good_if version wanted (text ++ with_end line) p (left == 1) (given (Sat (p.values ++ v ∷ [])) p)
        (Move (record (moved (Assignment (left - 1)) (length line + 1) p) { values = p.values ++ v ∷ [] }))
        (λ e. last_value (is_same left 1 e)) (λ e. next_value (λ one. differs left 1 e one))

  module _ (a : Awaited) (inside : InLines version wanted a text p) (none : p.values ≡ []) (line : List ℕ) (fits : p.bytes + (length line + 1) ≤ MAX_BYTES) (l : CertLine)
      (items : line ≡ line_items l) (next : IsNext l a) (holds : IsLine l) (version_fits : LineFitsVersion version l) where
    pushed_lines : AreLines version (p.lines ++ l ∷ [])
    pushed_lines = record { ranges = all_push IsLine p.lines l inside.lines.ranges holds; fits = all_push (LineFitsVersion version) p.lines l inside.lines.fits version_fits }

    lines_text : (n : ℕ) → inside.count ≡ n → (codes "unsat" ++ number n) ++ (10 ∷ flat_map line_text (p.lines ++ l ∷ [])) ≡ text ++ with_end line
    lines_text n total =
        grown line_text line_items (codes "unsat" ++ number n) p.lines l refl
        ∙ ap (λ (xs : List ℕ). xs ++ with_end (line_items l)) (ap (λ (m : ℕ). (codes "unsat" ++ number m) ++ (10 ∷ flat_map line_text p.lines)) (sym total) ∙ sym inside.text_is)
        ∙ ap (λ (xs : List ℕ). text ++ with_end xs) (sym items)

    leads_on : (lines : List CertLine) → Completes (awaited_after l a) lines → Completes (awaiting inside.count 0 0) ((p.lines ++ l ∷ []) ++ lines)
    leads_on lines h = subst (Completes (awaiting inside.count 0 0)) (sym (append_assoc p.lines (l ∷ []) lines)) (inside.leads (l ∷ lines) (inside.more, (next, h)))

    last_line : is_whole (awaited_after l a) ≡ true → IsGood version wanted (text ++ with_end line) p (given (UnsatSteps (p.lines ++ l ∷ [])) p)
    last_line over =
        let count = length_push p.lines l in
        let whole_list = subst (Completes (awaiting inside.count 0 0)) (append-nil (p.lines ++ l ∷ [])) (leads_on [] over) in
        let c = clauses_shape inside.count (p.lines ++ l ∷ []) whole_list in
        whole_good line fits inside.awaited (UnsatSteps (p.lines ++ l ∷ []))
        (record { few = subst IsNarrow (sym c.count) inside.few; order = c.order; ranges = pushed_lines.ranges; fits = pushed_lines.fits })
        (entry_is (UnsatSteps (p.lines ++ l ∷ [])) ∙ lines_text (clauses (p.lines ++ l ∷ [])) (sym c.count)) (omega (arith, count, inside.line))

    next_line : is_whole (awaited_after l a) ≡ false
        → IsMoved version wanted (text ++ with_end line) p (record (moved (Refutation (awaited_after l a)) (length line + 1) p) { lines = p.lines ++ l ∷ [] })
    next_line more =
        let count = length_push p.lines l in
        record {
          complete = refl;
          line = refl;
          first_line = refl;
          short = fits;
          inside = record {
            version_is = same;
            bytes = more_bytes text line p.bytes bytes;
            at = (
              record {
                count = inside.count;
                few = inside.few;
                more = more;
                reached = ap (awaited_after l) inside.reached ∙ sym (after_more p.lines l (awaiting inside.count 0 0));
                leads = leads_on;
                lines = pushed_lines;
                text_is = sym (lines_text inside.count refl);
                line = omega (arith, count, inside.line);
                awaited = inside.awaited;
              },
              none,
            );
          };
        }

    line_good : IsGood version wanted (text ++ with_end line) p (with_line a (length line + 1) p l)
    unfolding with_line
    line_good = good_if version wanted (text ++ with_end line) p (is_whole (awaited_after l a)) (given (UnsatSteps (p.lines ++ l ∷ [])) p)
        (Move (record (moved (Refutation (awaited_after l a)) (length line + 1) p) { lines = p.lines ++ l ∷ [] })) last_line next_line

  ne_below : (p.complete == wanted) ≡ false → p.complete ≤ wanted → p.complete < wanted
  ne_below e le = grind (arith, nat_tests)

  -- a line that is read is whole, and not cut off
  uncut : (part line : List ℕ) → line ≡ take (MAX_BYTES + 1) part → p.bytes + (length line + 1) ≤ MAX_BYTES → line ≡ part
  uncut part line cut fits =
      let size : length (take (MAX_BYTES + 1) part) ≡ min (MAX_BYTES + 1) (length part) = length-take (MAX_BYTES + 1) part in
      cut ∙ take_all (MAX_BYTES + 1) part (omega (arith, size, ap (λ (xs : List ℕ). length xs) cut, fits))

  good_uncut : (part line : List ℕ) → line ≡ take (MAX_BYTES + 1) part → p.bytes + (length line + 1) ≤ MAX_BYTES → (n : Next)
      → IsGood version wanted (text ++ with_end line) p n → IsGood version wanted (text ++ with_end part) p n
  good_uncut part line cut fits n h = subst (λ (xs : List ℕ). IsGood version wanted (text ++ with_end xs) p n) (uncut part line cut fits) h

  place_good : (place : Place) (part line : List ℕ) → line ≡ take (MAX_BYTES + 1) part → At version wanted place text p → IsGood version wanted (text ++ with_end part) p (next_in place wanted p line)
  unfolding next_in opening_line assignment_line refutation_line
  place_good Header part line cut h = absurd h
  place_good Between part line cut h =
      good_if version wanted (text ++ with_end part) p (p.complete == wanted) (Halt (fault_at 2 p)) (after (limited line p (opening_at line)) (begun (length line + 1) p)) (λ e. tt)
      (λ e. good_after version wanted (text ++ with_end part) p (limited line p (opening_at line)) (begun (length line + 1) p)
      (λ o k.
      let r = limited_is line p (opening_at line) o k in
      good_uncut part line cut r.fits (begun (length line + 1) p o) (begun_good h (ne_below e h.few) line r.fits o (opening_gives line o r.is))))
  place_good (Assignment left) part line cut h =
      good_after version wanted (text ++ with_end part) p (limited line p (value_at line)) (with_value left (length line + 1) p)
      (λ v k.
      let r = limited_is line p (value_at line) v k in
      let t = value_gives line v r.is in
      good_uncut part line cut r.fits (with_value left (length line + 1) p v) (value_good left h.0 h.1 line r.fits v t.text_is t.holds))
  place_good (Refutation a) part line cut h =
      good_after version wanted (text ++ with_end part) p (limited line p (line_at p.version a line)) (with_line a (length line + 1) p)
      (λ l k.
      let r = limited_is line p (line_at p.version a line) l k in
      let t = line_gives version known a line l (subst (λ (v : ℕ). line_at v a line ≡ Ok l) same r.is) in
      good_uncut part line cut r.fits (with_line a (length line + 1) p l) (line_good a h.0 h.1 line r.fits l (t.text_is ∙ append-nil (line_items l)) t.next t.line t.fits))

-- the state after a line
pub next_good : {bits : Bool} (version : ℕ) → IsVersion bits version → (wanted : ℕ) (text : List ℕ) (p : Progress) (part : List ℕ) → IsInside version wanted text p → IsGood version wanted (text ++ with_end part) p (next_at wanted p part)
unfolding next_at
next_good version known wanted text p part h = place_good version known wanted text p h.version_is h.bytes p.place part (take (MAX_BYTES + 1) part) refl h.at
