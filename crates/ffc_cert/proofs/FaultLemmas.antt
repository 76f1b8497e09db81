-- The fault of a line is that of the first line at fault.
use Rattle.std.proofs.Common.{◌≡◌, ℕ, zero, suc, ◌+◌, ◌<◌, ◌==◌, Bool, true, false, cond, List, [], ◌∷◌, ◌++◌, length, take, Result, Ok, Err, ◌⊎◌, inl, inr, refl, sym, ap, ◌∙◌, subst, arith, append-nil, length-append}
use Rattle.std.specs.Prelude.{nat_lt, if◌then◌else◌}
use Rattle.std.specs.List.{position_or_len, before_first, after_first}
use Rattle.std.proofs.lemmas.Bool.{ltb-true}
use Rattle.std.proofs.lemmas.Bool.Decides.{nat_tests}
use Rattle.std.proofs.lemmas.List.Sums.{sum_by-cons, sum_by-append}
use Rattle.ffc_cert.specs.declared.TheConstants.{MAX_BYTES}
use Rattle.ffc_cert.specs.declared.flaws.Flaw.{Flaw}
use Rattle.ffc_cert.specs.declared.flaws.Flaw.TheVariants.{Form, Number, Missing}
use Rattle.ffc_cert.specs.declared.entries.CertLine.{CertLine}
use Rattle.ffc_cert.specs.declared.entries.CertFault.{CertFault}
use Rattle.ffc_cert.specs.declared.forms.Awaited.{Awaited}
use Rattle.ffc_cert.specs.declared.forms.Opening.{Opening}
use Rattle.ffc_cert.specs.declared.forms.Opening.TheVariants as openings
use Rattle.ffc_cert.specs.declared.progress.Place.{Place}
use Rattle.ffc_cert.specs.declared.progress.Place.TheVariants.{Header, Between, Assignment, Refutation}
use Rattle.ffc_cert.specs.declared.progress.Progress.{Progress}
use Rattle.ffc_cert.specs.Lines.{line_at, value_at, opening_at}
use Rattle.ffc_cert.specs.Reading.{Next, Halt, Move, Give, is_whole, awaited_after, fault_at, code_of, entry_number, begun, with_value, with_line, limited, after, opening_line, assignment_line, refutation_line, next_in, is_line_end}
use Rattle.ffc_cert.specs.Spelling.{line_items}
use Rattle.ffc_cert.specs.Laws.{IsVersion}
use Rattle.ffc_cert.specs.FirstItem.{BeginsLine, at_end}
use Rattle.ffc_cert.specs.FirstFault.{lines_of, ended_line, HasLine, seen_line, Begins, BeginsNone, HasNoForm, IsTooLong}
use Rattle.ffc_cert.proofs.Codes.{IsPlain}
use Rattle.ffc_cert.proofs.NumberCodes.{is_same}
use Rattle.ffc_cert.proofs.LineCodes.{line_gives}
use Rattle.ffc_cert.proofs.OpeningCodes.{value_gives, opening_gives}
use Rattle.ffc_cert.proofs.GivenLemmas.{InValues, InLines, IsBetween, At, IsInside}
use Rattle.ffc_cert.proofs.ItemFaults.{IsFlawOfLine, opening_flaw, opening_whole, value_flaw, value_whole, refutation_flaw, refutation_whole}
use Rattle.ffc_cert.proofs.NextLines.{IsRead, opening_next, value_next, line_next, opening_begins, value_begins, line_begins}

-- the first line of bytes

line_by : (over : Bool) (c : ℕ) (bytes : List ℕ) → is_line_end c ≡ over → IsPlain (before_first is_line_end bytes) → IsPlain (before_first is_line_end (c ∷ bytes))
line_by true c bytes e h = rw e tt
line_by false c bytes e h =
    let more : 1 + position_or_len is_line_end bytes ≡ suc (position_or_len is_line_end bytes) = omega arith in
    rw (e, more) (e, h)

pub line_plain : (bytes : List ℕ) → IsPlain (before_first is_line_end bytes)
line_plain [] = tt
line_plain (c ∷ bytes) = line_by (is_line_end c) c bytes refl (line_plain bytes)

take_plain : (n : ℕ) (bytes : List ℕ) → IsPlain bytes → IsPlain (take n bytes)
take_plain zero bytes h = tt
take_plain (suc n) [] h = tt
take_plain (suc n) (c ∷ bytes) h = (h.0, take_plain n bytes h.1)

pub seen_plain : (bytes : List ℕ) → IsPlain (seen_line bytes)
seen_plain bytes = take_plain (MAX_BYTES + 1) (before_first is_line_end bytes) (line_plain bytes)

split_by : (over : Bool) (c : ℕ) (bytes : List ℕ) → is_line_end c ≡ over → position_or_len is_line_end (c ∷ bytes) < suc (length bytes)
    → (position_or_len is_line_end bytes < length bytes → bytes ≡ before_first is_line_end bytes ++ (10 ∷ after_first is_line_end bytes))
    → c ∷ bytes ≡ before_first is_line_end (c ∷ bytes) ++ (10 ∷ after_first is_line_end (c ∷ bytes))
split_by true c bytes e lt h = let same : c ≡ 10 = is_same c 10 e in rw e (ap (λ (x : ℕ). x ∷ bytes) same)
split_by false c bytes e lt h =
    let more : 1 + position_or_len is_line_end bytes ≡ suc (position_or_len is_line_end bytes) = omega arith in
    let further : suc (position_or_len is_line_end bytes) + 1 ≡ suc (position_or_len is_line_end bytes + 1) = omega arith in
    let inside : position_or_len is_line_end bytes < length bytes = (let here = rw (e, more) at lt in omega (arith, here)) in
    rw (e, more, further) (ap (λ (xs : List ℕ). c ∷ xs) (h inside))

pub line_split : (bytes : List ℕ) → HasLine bytes → bytes ≡ before_first is_line_end bytes ++ (10 ∷ after_first is_line_end bytes)
line_split [] lt = absurd (omega arith)
line_split (c ∷ bytes) lt = split_by (is_line_end c) c bytes refl lt (line_split bytes)

abbrev tally : Bool → ℕ
tally b = cond b 1 0

plain_count : (line : List ℕ) → IsPlain line → lines_of line ≡ 0
plain_count [] h = refl
plain_count (c ∷ line) h =
    let step = sum_by-cons (λ (x : ℕ). tally (is_line_end x)) c line in
    let none : tally (is_line_end c) ≡ 0 = ap tally h.0 in
    omega (arith, step, none, plain_count line h.1)

-- a line with its LF is one line
pub count_more : (front line : List ℕ) → IsPlain line → lines_of (front ++ ended_line line) ≡ lines_of front + 1
count_more front line h =
    let test : ℕ → ℕ = λ (x : ℕ). tally (is_line_end x) in
    let one = sum_by-append test front (ended_line line) in
    let two = sum_by-append test line (10 ∷ []) in
    omega (arith, one, two, plain_count line h)

-- what is wrong with a line

abbrev pub IsBad : ℕ → List ℕ → List ℕ → ℕ → Type 0
IsBad version part line code = HasNoForm version part line code ⊎ IsTooLong version part line code

record IsJudgedSo (version : ℕ) (part line : List ℕ) (p : Progress) (fault : CertFault) : Type 0 where
  code : ℕ
  fault_is : fault ≡ fault_at code p
  bad : IsBad version part line code

abbrev IsNotHalt : Next → Type 0
IsNotHalt (Halt fault) = ⊥
IsNotHalt (Move q) = Unit {0}
IsNotHalt (Give x q) = Unit {0}

not_halt_if : (b : Bool) (n m : Next) → IsNotHalt n → IsNotHalt m → IsNotHalt (if b then n else m)
not_halt_if true n m h k = h
not_halt_if false n m h k = k

begun_goes : (size : ℕ) (p : Progress) (o : Opening) → IsNotHalt (begun size p o)
unfolding begun
begun_goes size p (openings.Assignment n) = not_halt_if (n == 0) _ _ tt tt
begun_goes size p (openings.Refutation n) = not_halt_if (n == 0) _ _ tt tt
begun_goes size p (openings.Whole e) = tt

value_goes : (left size : ℕ) (p : Progress) (v : ℕ × ℕ) → IsNotHalt (with_value left size p v)
unfolding with_value
value_goes left size p v = not_halt_if (left == 1) _ _ tt tt

line_goes : (a : Awaited) (size : ℕ) (p : Progress) (l : CertLine) → IsNotHalt (with_line a size p l)
unfolding with_line
line_goes a size p l = not_halt_if (is_whole (awaited_after l a)) _ _ tt tt

no_halt : (n : Next) (fault : CertFault) → IsNotHalt n → n ≡ Halt fault → ⊥
no_halt (Halt f) fault h e = h
no_halt (Move q) fault h e = cc
no_halt (Give x q) fault h e = cc

module _ (version : ℕ) (part line : List ℕ) (p : Progress) (bytes : p.bytes ≡ length part) where
  size_with : length (part ++ ended_line line) ≡ p.bytes + (length line + 1)
  size_with = omega (arith, bytes, length-append part (ended_line line), length-append line (10 ∷ []))

  flaw_bad : (cut : Bool) → nat_lt MAX_BYTES (length line) ≡ cut → (flaw : Flaw) → BeginsNone version (part ++ ended_line line) → IsFlawOfLine version part line flaw → IsBad version part line (code_of cut flaw)
  unfolding code_of
  flaw_bad cut e Form none f = inl (record { none = none; flawed = f.form refl })
  flaw_bad cut e Number none f = inl (record { none = none; flawed = f.number refl })
  flaw_bad true e Missing none f =
      let many = ltb-true MAX_BYTES (length line) e in
      inr (record { code_is = refl; long = omega (arith, size_with, many); items = f.missing refl; form = λ few. absurd (omega (arith, few, many)) })
  flaw_bad false e Missing none f = inl (record { none = none; flawed = at_end (f.missing refl) refl })

  limited_by : {A : Type 0} (x : A) (over : Bool) → nat_lt MAX_BYTES (p.bytes + (length line + 1)) ≡ over → (next : A → Next) → ((y : A) → IsNotHalt (next y))
      → Begins version (part ++ ended_line line) → BeginsLine version part (32 ∷ line) → (fault : CertFault) → after (if over then Err (fault_at 5 p) else Ok x) next ≡ Halt fault
      → IsJudgedSo version part line p fault
  limited_by x true e next goes begins items fault h =
      let many = ltb-true MAX_BYTES (p.bytes + (length line + 1)) e in
      record { code = 5; fault_is = cc; bad = inr (record { code_is = refl; long = omega (arith, size_with, many); items = items; form = λ few. begins }) }
  limited_by x false e next goes begins items fault h = absurd (no_halt (next x) fault (goes x) h)

  limited_bad : {A : Type 0} (r : Result A Flaw) (next : A → Next) → ((y : A) → IsNotHalt (next y))
      → ((flaw : Flaw) → r ≡ Err flaw → BeginsNone version (part ++ ended_line line) × IsFlawOfLine version part line flaw)
      → ((x : A) → r ≡ Ok x → Begins version (part ++ ended_line line) × BeginsLine version part (32 ∷ line))
      → (fault : CertFault) → after (limited line p r) next ≡ Halt fault → IsJudgedSo version part line p fault
  unfolding limited
  limited_bad (Err flaw) next goes bad good fault h =
      let cut : Bool = nat_lt MAX_BYTES (length line) in
      let b = bad flaw refl in
      record { code = code_of cut flaw; fault_is = cc; bad = flaw_bad cut refl flaw b.0 b.1 }
  limited_bad (Ok x) next goes bad good fault h =
      let g = good x refl in
      limited_by x (nat_lt MAX_BYTES (p.bytes + (length line + 1))) refl next goes g.0 g.1 fault h

not_read : {A : Type 0} (r : Result A Flaw) (flaw : Flaw) → r ≡ Err flaw → IsRead r → ⊥
not_read r flaw h k = let clash : Err flaw ≡ Ok k.0 = sym h ∙ k.1 in cc

-- the halt at a line, in an entry or before one
pub record IsHaltOf (version wanted : ℕ) (part line : List ℕ) (p : Progress) (fault : CertFault) : Type 0 where
  pub code : ℕ
  pub fault_is : fault ≡ record { entry = p.complete + 1; line = p.line; code = code }
  pub awaited : p.complete < wanted
  pub bad : IsBad version part line code

-- a line at which a reading halts, other than in line 1
pub data IsHaltAt (version wanted : ℕ) (part line : List ℕ) (p : Progress) (fault : CertFault) : Type 0 where
  over : p.complete ≡ wanted → part ≡ [] → fault ≡ record { entry = p.complete + 1; line = p.line; code = 2 } → IsHaltAt version wanted part line p fault
  within : IsHaltOf version wanted part line p fault → IsHaltAt version wanted part line p fault

pub entry_after : (version wanted : ℕ) (part : List ℕ) (p : Progress) (place : Place) → At version wanted place part p → entry_number place p.complete ≡ p.complete + 1
unfolding entry_number
entry_after version wanted part p Header h = absurd h
entry_after version wanted part p Between h = refl
entry_after version wanted part p (Assignment left) h = refl
entry_after version wanted part p (Refutation a) h = refl

module _ {bits : Bool} (version : ℕ) (known : IsVersion bits version) (wanted : ℕ) (part : List ℕ) (p : Progress) (line : List ℕ) (plain : IsPlain line) (same : p.version ≡ version) (bytes : p.bytes ≡ length part) where
  of_judged : At version wanted p.place part p → p.complete < wanted → (fault : CertFault) → IsJudgedSo version part line p fault → IsHaltOf version wanted part line p fault
  of_judged h lt fault j = record {
    code = j.code;
    fault_is = j.fault_is ∙ ap (λ (n : ℕ). record { entry = n; line = p.line; code = j.code }) (entry_after version wanted part p p.place h);
    awaited = lt;
    bad = j.bad;
  }

  opening_bad : IsBetween wanted part p → (fault : CertFault) → opening_line p line ≡ Halt fault → IsJudgedSo version part line p fault
  unfolding opening_line
  opening_bad start fault h =
      limited_bad version part line p bytes (opening_at line) (begun (length line + 1) p) (begun_goes (length line + 1) p)
      (λ flaw k. (
        λ e more well text. not_read (opening_at line) flaw k (opening_next version known wanted part p line more plain e well text start.text_is),
        opening_flaw version known wanted part p start.text_is line flaw k,
      ))
      (λ o k. (opening_begins version known wanted part p line start.text_is o (opening_gives line o k), opening_whole version known wanted part p start.text_is line o k)) fault h

  value_bad : (left : ℕ) → InValues wanted left part p → (fault : CertFault) → assignment_line left p line ≡ Halt fault → IsJudgedSo version part line p fault
  unfolding assignment_line
  value_bad left inside fault h =
      limited_bad version part line p bytes (value_at line) (with_value left (length line + 1) p) (value_goes left (length line + 1) p)
      (λ flaw k. (
        λ e more well text. not_read (value_at line) flaw k (value_next version known wanted part p line more plain e well text left inside),
        value_flaw version known wanted part p left inside line flaw k,
      ))
      (λ v k. (let t = value_gives line v k in value_begins version known wanted part p line left inside v t.text_is t.holds, value_whole version known wanted part p left inside line v k)) fault h

  line_bad : (a : Awaited) → InLines version wanted a part p → (fault : CertFault) → refutation_line a p line ≡ Halt fault → IsJudgedSo version part line p fault
  unfolding refutation_line
  line_bad a inside fault h =
      limited_bad version part line p bytes (line_at p.version a line) (with_line a (length line + 1) p) (line_goes a (length line + 1) p)
      (λ flaw k. (
        λ e more well text. not_read (line_at p.version a line) flaw k
            (subst (λ (v : ℕ). IsRead (line_at v a line)) (sym same) (line_next version known wanted part p line more plain e well text a inside)),
        refutation_flaw version known wanted part p a inside line flaw (subst (λ (v : ℕ). line_at v a line ≡ Err flaw) same k),
      ))
      (λ l k.
      let read = subst (λ (v : ℕ). line_at v a line ≡ Ok l) same k in
      let t = line_gives version known a line l read in (
        line_begins version known wanted part p line a inside l (t.text_is ∙ append-nil (line_items l)) t.next t.line t.fits,
        refutation_whole version known wanted part p a inside line l read,
      )) fault h

  at_place : (place : Place) → p.place ≡ place → At version wanted place part p → At version wanted p.place part p
  at_place place e h = subst (λ (x : Place). At version wanted x part p) (sym e) h

  after_last_fault : IsBetween wanted part p → p.place ≡ Between → (fault : CertFault) → (p.complete == wanted) ≡ true → Halt (fault_at 2 p) ≡ Halt fault → IsHaltAt version wanted part line p fault
  after_last_fault start e fault all h =
      let is : fault ≡ fault_at 2 p = cc in
      over (is_same p.complete wanted all) start.text_is (is ∙ ap (λ (n : ℕ). record { entry = n; line = p.line; code = 2 }) (entry_after version wanted part p p.place (at_place Between e start)))

  between_halts : (all : Bool) → (p.complete == wanted) ≡ all → IsBetween wanted part p → p.place ≡ Between → (fault : CertFault)
      → (if all then Halt (fault_at 2 p) else opening_line p line) ≡ Halt fault → IsHaltAt version wanted part line p fault
  between_halts true all start e fault h = after_last_fault start e fault all h
  between_halts false all start e fault h =
      let few = start.few in
      let lt : p.complete < wanted = grind (arith, nat_tests, all, few) in
      within (of_judged (at_place Between e start) lt fault (opening_bad start fault h))

  place_halts : (place : Place) → p.place ≡ place → At version wanted place part p → (fault : CertFault) → next_in place wanted p line ≡ Halt fault → IsHaltAt version wanted part line p fault
  unfolding next_in
  place_halts Header e h fault k = absurd h
  place_halts Between e h fault k = between_halts (p.complete == wanted) refl h e fault k
  place_halts (Assignment left) e h fault k = within (of_judged (at_place (Assignment left) e h) h.0.awaited fault (value_bad left h.0 fault k))
  place_halts (Refutation a) e h fault k = within (of_judged (at_place (Refutation a) e h) h.0.awaited fault (line_bad a h.0 fault k))

-- a reading that halts at the line that the bytes begin with
pub line_halts : {bits : Bool} (version : ℕ) → IsVersion bits version → (wanted : ℕ) (part : List ℕ) (p : Progress) (bytes : List ℕ) → IsInside version wanted part p → (fault : CertFault)
    → next_in p.place wanted p (seen_line bytes) ≡ Halt fault → IsHaltAt version wanted part (seen_line bytes) p fault
line_halts version known wanted part p bytes h fault k = place_halts version known wanted part p (seen_line bytes) (seen_plain bytes) h.version_is h.bytes p.place refl h.at fault k
