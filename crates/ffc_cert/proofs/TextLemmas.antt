-- What is read of a text is its own text.
use Rattle.std.proofs.Common.{◌≡◌, ℕ, zero, suc, ◌+◌, ◌<◌, ◌≤◌, Bool, true, false, List, [], ◌∷◌, ◌++◌, length, take, drop, min, Option, Some, None, inl, inr, refl, sym, ap, ◌∙◌, subst, arith, append_assoc, length-append}
use Rattle.std.specs.Prelude.{codes, decimal, nat_lt, nat_eq, ◌&&◌, slice_get, if◌then◌else◌}
use Rattle.std.specs.List.{AllByRecursion, flat_map, slice_split, onto_first, starts_with}
use Rattle.std.specs.Str.{bytes_eq}
use Rattle.std.proofs.lemmas.List.{append-nil, length-take, take_all}
use Rattle.std.proofs.lemmas.Fmt.{decimal_digit}
use Rattle.std.proofs.lemmas.List.Splits.{slice_split-cons_yes, slice_split-cons_no}
use Rattle.std.proofs.lemmas.Bool.Decides.{Decides-eqb}
use Rattle.std.proofs.lemmas.Slice.Eq.{bytes_eq-Decides, starts_is}
use Rattle.ffc_cert.specs.declared.TheConstants.{MAX_BYTES}
use Rattle.ffc_cert.specs.declared.entries.Entry.{Entry}
use Rattle.ffc_cert.specs.declared.entries.Entry.TheVariants.{Sat, UnsatCases, UnsatSteps, Unknown}
use Rattle.ffc_cert.specs.declared.entries.Numbered.{Numbered}
use Rattle.ffc_cert.specs.declared.progress.Place.{Place}
use Rattle.ffc_cert.specs.declared.progress.Place.TheVariants.{Header, Between, Assignment, Refutation}
use Rattle.ffc_cert.specs.declared.progress.Progress.{Progress}
use Rattle.ffc_cert.specs.Reading.{Reading, End, Complete, Open, Stopped, ending, with_entry, Next, Halt, Move, Give, fault_at, named, header_line, next_in, next_at, read, read_parts, read_text, reading_of, origin, is_line_end, end_at, cut_end, end_after, is_complete}
use Rattle.ffc_cert.specs.Spelling.{line_items, line_text, value_line, entry_text, header, text_of}
use Rattle.ffc_cert.specs.WellFormed.{IsReadable, IsReadableIn}
use Rattle.ffc_cert.specs.Certificate.{version_of}
use Rattle.ffc_cert.specs.Laws.{IsVersion, line_count, numbered_from, entries_of, IsOfText, IsText, ReadsItsText, ReadsNoOther, AcceptsTexts, LinesAreInside}
use Rattle.ffc_cert.proofs.NumberCodes.{is_same}
use Rattle.ffc_cert.proofs.OpeningCodes.{value_items}
use Rattle.ffc_cert.proofs.PrefixLemmas.{body_of}
use Rattle.ffc_cert.proofs.ReadLemmas.{after_next, read_next}
use Rattle.ffc_cert.proofs.RestLemmas.{both_true}
use Rattle.ffc_cert.proofs.SplitLemmas.{parts_of}
use Rattle.ffc_cert.proofs.GivenLemmas.{with_end, IsInside, At, IsGood, IsMoved, IsGiven, inside_few, next_good, entry_length}
use Rattle.ffc_cert.proofs.BackLemmas.{header_read, between, reads_back}

-- parts with an LF between each two
abbrev pub joined : List ℕ → List (List ℕ) → List ℕ
joined part [] = part
joined part (next ∷ parts) = part ++ (10 ∷ joined next parts)

joined_cons : (c : ℕ) (part : List ℕ) (parts : List (List ℕ)) → joined (c ∷ part) parts ≡ c ∷ joined part parts
joined_cons c part [] = refl
joined_cons c part (next ∷ parts) = refl

split_by : (over : Bool) (c : ℕ) → is_line_end c ≡ over → (text part : List ℕ) (parts : List (List ℕ)) → slice_split is_line_end (c ∷ text) ≡ part ∷ parts
    → ((l : List ℕ) (ps : List (List ℕ)) → slice_split is_line_end text ≡ l ∷ ps → text ≡ joined l ps) → c ∷ text ≡ joined part parts
split_by true c e text part parts h more =
    let p = parts_of is_line_end text in
    let parts_are : [] ∷ (p.first ∷ p.others) ≡ part ∷ parts = ap (λ (ps : List (List ℕ)). [] ∷ ps) (sym p.split) ∙ sym (slice_split-cons_yes is_line_end c text e) ∙ h in
    let empty : [] ≡ part = cc in
    let others : p.first ∷ p.others ≡ parts = cc in
    ap (λ (x : ℕ). x ∷ text) (is_same c 10 e)
    ∙ ap (λ (xs : List ℕ). 10 ∷ xs) (more p.first p.others p.split)
    ∙ ap (λ (xs : List ℕ). joined xs (p.first ∷ p.others)) empty
    ∙ ap (joined part) others
split_by false c e text part parts h more =
    let p = parts_of is_line_end text in
    let parts_are : (c ∷ p.first) ∷ p.others ≡ part ∷ parts = sym (ap (onto_first c) p.split) ∙ sym (slice_split-cons_no is_line_end c text e) ∙ h in
    let front : c ∷ p.first ≡ part = cc in
    let others : p.others ≡ parts = cc in
    ap (λ (xs : List ℕ). c ∷ xs) (more p.first p.others p.split)
    ∙ sym (joined_cons c p.first p.others)
    ∙ ap (λ (xs : List ℕ). joined xs p.others) front
    ∙ ap (joined part) others

pub split_joined : (text part : List ℕ) (parts : List (List ℕ)) → slice_split is_line_end text ≡ part ∷ parts → text ≡ joined part parts
split_joined [] part parts h = let e : [] ∷ [] ≡ part ∷ parts = h in let one : [] ≡ part = cc in let none : [] ≡ parts = cc in one ∙ ap (joined part) none
split_joined (c ∷ text) part parts h = split_by (is_line_end c) c refl text part parts h (λ l ps k. split_joined text l ps k)

-- a text that ends with its last entry

cut_never : (n : Next) (p : Progress) → cut_end n p ≡ Complete → ⊥
unfolding cut_end
cut_never (Halt fault) p h = cc
cut_never (Move q) p h = cc
cut_never (Give entry q) p h = cc

behind_empty : (rest : List ℕ) (p : Progress) → end_after rest p ≡ Complete → rest ≡ []
unfolding end_after
behind_empty [] p h = refl
behind_empty (c ∷ cs) p h = absurd (cc)

end_by : (long beyond : Bool) (wanted : ℕ) (p : Progress) (rest : List ℕ)
    → (if long then cut_end (next_at wanted p rest) p else if beyond then end_after rest p else Open (fault_at 4 p)) ≡ Complete → (beyond ≡ true) × (rest ≡ [])
end_by true beyond wanted p rest h = absurd (cut_never (next_at wanted p rest) p h)
end_by false true wanted p rest h = (refl, behind_empty rest p h)
end_by false false wanted p rest h = absurd (cc)

end_complete : (wanted : ℕ) (p : Progress) (rest : List ℕ) → end_at wanted p rest ≡ Complete → (is_complete p.place p.complete wanted ≡ true) × (rest ≡ [])
unfolding end_at
end_complete wanted p rest h = end_by (nat_lt MAX_BYTES (length rest)) (is_complete p.place p.complete wanted) wanted p rest h

pub behind_inside : (version wanted : ℕ) (text : List ℕ) (p : Progress) (place : Place) → At version wanted place text p → is_complete place p.complete wanted ≡ true → (text ≡ []) × (p.complete ≡ wanted)
unfolding is_complete
behind_inside version wanted text p Header h e = absurd h
behind_inside version wanted text p Between h e = (h.text_is, is_same p.complete wanted e)
behind_inside version wanted text p (Assignment left) h e = absurd (cc)
behind_inside version wanted text p (Refutation a) h e = absurd (cc)

-- What a reading from a place in an entry says of the bytes from there on.
record IsSource (version wanted : ℕ) (text : List ℕ) (p : Progress) (bytes : List ℕ) (r : Reading) : Type 0 where
  more : List ℕ
  text_is : text ++ bytes ≡ flat_map entry_text (entries_of r.entries) ++ more
  numbers : r.entries ≡ numbered_from (p.complete + 1) p.first_line (entries_of r.entries)
  readable : AllByRecursion (IsReadable version) (entries_of r.entries)
  few : p.complete + length r.entries ≤ wanted
  whole : r.end ≡ Complete → (more ≡ []) × (p.complete + length r.entries ≡ wanted)

-- nothing more is read
source_end : (version wanted : ℕ) (text : List ℕ) (p : Progress) (bytes : List ℕ) (end : End) → p.complete ≤ wanted → (end ≡ Complete → (text ++ bytes ≡ []) × (p.complete ≡ wanted))
    → IsSource version wanted text p bytes (ending end)
source_end version wanted text p bytes end few whole = record {
  more = text ++ bytes;
  text_is = refl;
  numbers = refl;
  readable = tt;
  few = omega (arith, few);
  whole = λ e. let w = whole e in (w.0, omega (arith, w.1));
}

source_moved : (version wanted : ℕ) (text part : List ℕ) (p q : Progress) (bytes : List ℕ) (r : Reading) → IsMoved version wanted (text ++ with_end part) p q
    → IsSource version wanted (text ++ with_end part) q bytes r → IsSource version wanted text p (part ++ (10 ∷ bytes)) r
source_moved version wanted text part p q bytes r m h = record {
  more = h.more;
  text_is = ap (λ (xs : List ℕ). text ++ xs) (sym (append_assoc part (10 ∷ []) bytes)) ∙ sym (append_assoc text (with_end part) bytes) ∙ h.text_is;
  numbers = h.numbers ∙ ap (λ (n : ℕ). numbered_from (n + 1) q.first_line (entries_of r.entries)) m.complete ∙ ap (λ (n : ℕ). numbered_from (p.complete + 1) n (entries_of r.entries)) m.first_line;
  readable = h.readable;
  few = omega (arith, h.few, m.complete);
  whole = λ e. let w = h.whole e in (w.0, omega (arith, w.1, m.complete));
}

numbered_is : (x : Numbered) (number line : ℕ) → x.number ≡ number → x.first_line ≡ line → x ≡ record { number = number; first_line = line; entry = x.entry }
numbered_is x number line h k =
    ap (λ (n : ℕ). let y : Numbered = record { number = n; first_line = x.first_line; entry = x.entry } in y) h
    ∙ ap (λ (n : ℕ). let y : Numbered = record { number = number; first_line = n; entry = x.entry } in y) k

source_given : (version wanted : ℕ) (text part : List ℕ) (p : Progress) (x : Numbered) (q : Progress) (bytes : List ℕ) (r : Reading) → IsGiven version wanted (text ++ with_end part) p x q
    → IsSource version wanted [] q bytes r → IsSource version wanted text p (part ++ (10 ∷ bytes)) (with_entry x r)
source_given version wanted text part p x q bytes r g h = record {
  more = h.more;
  text_is = ap (λ (xs : List ℕ). text ++ xs) (sym (append_assoc part (10 ∷ []) bytes))
      ∙ sym (append_assoc text (with_end part) bytes)
      ∙ ap (λ (xs : List ℕ). xs ++ bytes) (sym g.text_is)
      ∙ ap (λ (xs : List ℕ). entry_text x.entry ++ xs) h.text_is
      ∙ sym (append_assoc (entry_text x.entry) (flat_map entry_text (entries_of r.entries)) h.more);
  numbers = ap (λ (xs : List Numbered). x ∷ xs)
      (h.numbers ∙ ap (λ (n : ℕ). numbered_from (n + 1) q.first_line (entries_of r.entries)) g.complete
      ∙ ap (λ (n : ℕ). numbered_from ((p.complete + 1) + 1) n (entries_of r.entries)) g.next_line)
      ∙ ap (λ (y : Numbered). y ∷ numbered_from ((p.complete + 1) + 1) (p.first_line + line_count x.entry) (entries_of r.entries)) (numbered_is x (p.complete + 1) p.first_line g.number g.first_line);
  readable = (g.readable, h.readable);
  few = omega (arith, h.few, g.complete);
  whole = λ e. let w = h.whole e in (w.0, omega (arith, w.1, g.complete));
}

source_on : (version wanted : ℕ) (text part next : List ℕ) (parts : List (List ℕ)) (p : Progress) (n : Next) → p.complete ≤ wanted → IsGood version wanted (text ++ with_end part) p n
    → ((t : List ℕ) (q : Progress) → IsInside version wanted t q → IsSource version wanted t q (joined next parts) (read wanted q next parts))
    → IsSource version wanted text p (part ++ (10 ∷ joined next parts)) (after_next n (λ q. read wanted q next parts))
source_on version wanted text part next parts p (Halt fault) few h more = source_end version wanted text p (part ++ (10 ∷ joined next parts)) (Stopped fault) few (λ e. absurd (cc))
source_on version wanted text part next parts p (Move q) few h more = source_moved version wanted text part p q (joined next parts) (read wanted q next parts) h (more (text ++ with_end part) q h.inside)
source_on version wanted text part next parts p (Give x q) few h more = source_given version wanted text part p x q (joined next parts) (read wanted q next parts) h (more [] q h.inside)

source : {bits : Bool} (version : ℕ) → IsVersion bits version → (wanted : ℕ) (parts : List (List ℕ)) (part text : List ℕ) (p : Progress) → IsInside version wanted text p
    → IsSource version wanted text p (joined part parts) (read wanted p part parts)
unfolding read
source version known wanted [] part text p h =
    source_end version wanted text p part (end_at wanted p part) (inside_few version wanted text p p.place h.at)
    (λ e. let c = end_complete wanted p part e in
    let b = behind_inside version wanted text p p.place h.at c.0 in
    (ap (λ (xs : List ℕ). xs ++ part) b.0 ∙ c.1, b.1))
source version known wanted (next ∷ parts) part text p h =
    subst (IsSource version wanted text p (part ++ (10 ∷ joined next parts))) (sym (read_next wanted p part next parts (next_at wanted p part) refl))
    (source_on version wanted text part next parts p (next_at wanted p part) (inside_few version wanted text p p.place h.at) (next_good version known wanted text p part h)
    (λ t q k. source version known wanted parts next t q k))

-- the bytes after line 1
behind_header : (bits : Bool) (version : ℕ) → IsVersion bits version → (wanted : ℕ) (rest : List ℕ) → IsSource version wanted [] (between bits version 0 2) rest (read_text wanted (between bits version 0 2) rest)
behind_header bits version known wanted rest =
    let parts = parts_of is_line_end rest in
    let inside : IsInside version wanted [] (between bits version 0 2) =
    record { version_is = refl; bytes = refl; at = record { text_is = refl; values = refl; lines = refl; line = refl; few = omega arith } } in
    let h = source version known wanted parts.others parts.first [] (between bits version 0 2) inside in
    let r : IsSource version wanted [] (between bits version 0 2) (joined parts.first parts.others) (read_text wanted (between bits version 0 2) rest) =
    subst (IsSource version wanted [] (between bits version 0 2) (joined parts.first parts.others)) (sym (ap (read_parts wanted (between bits version 0 2)) parts.split)) h in
    subst (λ (xs : List ℕ). IsSource version wanted [] (between bits version 0 2) xs (read_text wanted (between bits version 0 2) rest)) (sym (split_joined rest parts.first parts.others parts.split)) r

-- a text with line 1
pub record HasHeader (bits : Bool) (version : ℕ) (text : List ℕ) : Type 0 where
  pub known : IsVersion bits version
  pub rest : List ℕ
  pub text_is : text ≡ header version ++ rest

of_header : (bits : Bool) (wanted version : ℕ) (text : List ℕ) → HasHeader bits version text → IsOfText wanted version text (reading_of bits wanted text)
unfolding text_of
of_header bits wanted version text h =
    let s = behind_header bits version h.known wanted h.rest in
    let is : reading_of bits wanted text ≡ read_text wanted (between bits version 0 2) h.rest = ap (reading_of bits wanted) h.text_is ∙ header_read bits version h.known wanted h.rest in
    subst (IsOfText wanted version text) (sym is) (record {
      more = s.more;
      text_is = h.text_is ∙ ap (λ (xs : List ℕ). header version ++ xs) s.text_is
          ∙ sym (append_assoc (header version) (flat_map entry_text (entries_of (read_text wanted (between bits version 0 2) h.rest).entries)) s.more);
      numbers = s.numbers;
      readable = s.readable;
      few = omega (arith, s.few);
      whole = λ e. let w = s.whole e in (w.0, omega (arith, w.1));
    })

-- Line 1.

header_one : header 1 ≡ codes "ffcert 1\n"
header_one = ap (λ (ds : List ℕ). codes "ffcert " ++ ds ++ (10 ∷ [])) (decimal_digit 1 (omega arith))

header_two : header 2 ≡ codes "ffcert 2\n"
header_two = ap (λ (ds : List ℕ). codes "ffcert " ++ ds ++ (10 ∷ [])) (decimal_digit 2 (omega arith))

header_three : header 3 ≡ codes "ffcert 3\n"
header_three = ap (λ (ds : List ℕ). codes "ffcert " ++ ds ++ (10 ∷ [])) (decimal_digit 3 (omega arith))

-- a text that begins so
begins : (text line : List ℕ) → starts_with nat_eq text line ≡ true → text ≡ line ++ drop (length line) text
begins text line h = (starts_is Decides-eqb text line (starts_with nat_eq text line) refl).0 h

begins_with : (text line rest : List ℕ) → text ≡ line ++ rest → starts_with nat_eq text line ≡ true
begins_with text line rest h = (starts_is Decides-eqb text line (starts_with nat_eq text line) refl).1 rest h

some_is : (a b : ℕ) → Some a ≡ Some b → a ≡ b
some_is a b h = cc

abbrev named_by : Bool → Bool → Bool → Option ℕ
named_by one two three = if one then Some 1 else if two then Some 2 else if three then Some 3 else None

-- line 1 of each version
abbrev line_one : List ℕ
line_one = codes "ffcert 1\n"

abbrev line_two : List ℕ
line_two = codes "ffcert 2\n"

abbrev line_three : List ℕ
line_three = codes "ffcert 3\n"

with_header : (bits : Bool) (text line : List ℕ) (version number : ℕ) → IsVersion bits version → version ≡ number → header number ≡ line → starts_with nat_eq text line ≡ true → HasHeader bits version text
with_header bits text line version number known v is e = record {
  known = known;
  rest = drop (length line) text;
  text_is = begins text line e ∙ ap (λ (xs : List ℕ). xs ++ drop (length line) text) (sym is ∙ ap header (sym v));
}

version_by : (bits : Bool) (text : List ℕ) (version : ℕ) (one two three : Bool) → starts_with nat_eq text line_one ≡ one → starts_with nat_eq text line_two ≡ two
    → (bits && starts_with nat_eq text line_three) ≡ three → named_by one two three ≡ Some version → HasHeader bits version text
version_by bits text version true two three e f g h =
    let v : version ≡ 1 = sym (some_is 1 version h) in with_header bits text line_one version 1 (inl v) v header_one e
version_by bits text version false true three e f g h =
    let v : version ≡ 2 = sym (some_is 2 version h) in with_header bits text line_two version 2 (inr (inl v)) v header_two f
version_by bits text version false false true e f g h =
    let v : version ≡ 3 = sym (some_is 3 version h) in
    let k = both_true bits (starts_with nat_eq text line_three) g in
    with_header bits text line_three version 3 (inr (inr (v, k.0))) v header_three k.1
version_by bits text version false false false e f g h = absurd (cc)

pub has_header : (bits : Bool) (text : List ℕ) (version : ℕ) → version_of bits text ≡ Some version → HasHeader bits version text
has_header bits text version h = version_by bits text version (starts_with nat_eq text line_one) (starts_with nat_eq text line_two) (bits && starts_with nat_eq text line_three) refl refl refl h

one_named : (bits : Bool) (text rest : List ℕ) → text ≡ line_one ++ rest → version_of bits text ≡ Some 1
one_named bits text rest h = rw h refl

two_named : (bits : Bool) (text rest : List ℕ) → text ≡ line_two ++ rest → version_of bits text ≡ Some 2
two_named bits text rest h = rw h refl

three_named : (bits : Bool) (text rest : List ℕ) → bits ≡ true → text ≡ line_three ++ rest → version_of bits text ≡ Some 3
three_named bits text rest known h = rw (known, h) refl

header_named : (bits : Bool) (version : ℕ) → IsVersion bits version → (text rest : List ℕ) → text ≡ header version ++ rest → version_of bits text ≡ Some version
header_named bits version (inl one) text rest h = one_named bits text rest (h ∙ ap (λ (xs : List ℕ). xs ++ rest) (ap header one ∙ header_one)) ∙ ap Some (sym one)
header_named bits version (inr (inl two)) text rest h = two_named bits text rest (h ∙ ap (λ (xs : List ℕ). xs ++ rest) (ap header two ∙ header_two)) ∙ ap Some (sym two)
header_named bits version (inr (inr three)) text rest h =
    three_named bits text rest three.1 (h ∙ ap (λ (xs : List ℕ). xs ++ rest) (ap header three.0 ∙ header_three)) ∙ ap Some (sym three.0)

-- the version stays the version
pub version_stays : (bits : Bool) (text more : List ℕ) (version : ℕ) → version_of bits text ≡ Some version → version_of bits (text ++ more) ≡ Some version
version_stays bits text more version h =
    let k = has_header bits text version h in
    header_named bits version k.known (text ++ more) (k.rest ++ more) (ap (λ (xs : List ℕ). xs ++ more) k.text_is ∙ append_assoc (header version) k.rest more)

pub reads_its_text : ReadsItsText
reads_its_text bits wanted version text h = of_header bits wanted version text (has_header bits text version h)

-- the text begins with line 1 of no version that is read
pub record NoVersion (bits : Bool) (text : List ℕ) : Type 0 where
  pub one : starts_with nat_eq text line_one ≡ false
  pub two : starts_with nat_eq text line_two ≡ false
  pub three : bits ≡ true → starts_with nat_eq text line_three ≡ false

no_version_by : (bits : Bool) (text : List ℕ) (one two three : Bool) → starts_with nat_eq text line_one ≡ one → starts_with nat_eq text line_two ≡ two → (bits && starts_with nat_eq text line_three) ≡ three
    → named_by one two three ≡ None → NoVersion bits text
no_version_by bits text true two three e f g h = absurd (cc)
no_version_by bits text false true three e f g h = absurd (cc)
no_version_by bits text false false true e f g h = absurd (cc)
no_version_by bits text false false false e f g h = record { one = e; two = f; three = λ known. rw known at g }

pub no_version : (bits : Bool) (text : List ℕ) → version_of bits text ≡ None → NoVersion bits text
no_version bits text h = no_version_by bits text (starts_with nat_eq text line_one) (starts_with nat_eq text line_two) (bits && starts_with nat_eq text line_three) refl refl refl h

-- nothing was read, and something is wanted
abbrev IsBare : Reading → Type 0
IsBare r = (r.entries ≡ []) × (r.end ≡ Complete → ⊥)

-- a line that names a version is the front of a text that does
pub never_named : (line seen part rest text : List ℕ) → text ≡ part ++ (10 ∷ rest) → seen ≡ take (MAX_BYTES + 1) part → length line ≤ MAX_BYTES → seen ≡ line
    → starts_with nat_eq text (line ++ (10 ∷ [])) ≡ false → ⊥
never_named line seen part rest text h cut short same none =
    let size : length (take (MAX_BYTES + 1) part) ≡ min (MAX_BYTES + 1) (length part) = length-take (MAX_BYTES + 1) part in
    let few : length part ≤ MAX_BYTES + 1 = omega (arith, size, ap (λ (xs : List ℕ). length xs) cut, ap (λ (xs : List ℕ). length xs) same, short) in
    let whole : part ≡ line = sym (take_all (MAX_BYTES + 1) part few) ∙ sym cut ∙ same in
    let text_is : text ≡ (line ++ (10 ∷ [])) ++ rest = h ∙ ap (λ (xs : List ℕ). xs ++ (10 ∷ rest)) whole ∙ sym (append_assoc line (10 ∷ []) rest) in
    absurd (let clash : true ≡ false = sym (begins_with text (line ++ (10 ∷ [])) rest text_is) ∙ none in cc)

module _ (bits : Bool) (wanted : ℕ) (text : List ℕ) (none : NoVersion bits text) where
  -- line 1 of a text is no line 1 of a version
  line_is_not : (line part rest : List ℕ) → text ≡ part ++ (10 ∷ rest) → length line ≤ MAX_BYTES → bytes_eq (take (MAX_BYTES + 1) part) line ≡ true → starts_with nat_eq text (line ++ (10 ∷ [])) ≡ false → ⊥
  line_is_not line part rest h short e other =
      never_named line (take (MAX_BYTES + 1) part) part rest text h refl short ((bytes_eq-Decides (take (MAX_BYTES + 1) part) line).0 e) other

  bare_by : (part next : List ℕ) (parts : List (List ℕ)) → text ≡ part ++ (10 ∷ joined next parts)
      → (one two three : Bool) → bytes_eq (take (MAX_BYTES + 1) part) (codes "ffcert 1") ≡ one → bytes_eq (take (MAX_BYTES + 1) part) (codes "ffcert 2") ≡ two
      → (bits && bytes_eq (take (MAX_BYTES + 1) part) (codes "ffcert 3")) ≡ three
      → IsBare (after_next (if one then Move (named 1 (origin bits)) else if two then Move (named 2 (origin bits)) else if three then Move (named 3 (origin bits)) else Halt (fault_at 1 (origin bits))) (λ q. read wanted q next parts))
  bare_by part next parts h true two three e f g = absurd (line_is_not (codes "ffcert 1") part (joined next parts) h (omega arith) e none.one)
  bare_by part next parts h false true three e f g = absurd (line_is_not (codes "ffcert 2") part (joined next parts) h (omega arith) f none.two)
  bare_by part next parts h false false true e f g =
      let k = both_true bits (bytes_eq (take (MAX_BYTES + 1) part) (codes "ffcert 3")) g in
      absurd (line_is_not (codes "ffcert 3") part (joined next parts) h (omega arith) k.1 (none.three k.0))
  bare_by part next parts h false false false e f g = (refl, λ k. cc)

  bare_next : (part next : List ℕ) (parts : List (List ℕ)) → text ≡ part ++ (10 ∷ joined next parts) → IsBare (after_next (next_at wanted (origin bits) part) (λ q. read wanted q next parts))
  unfolding next_at next_in header_line
  bare_next part next parts h = bare_by part next parts h
      (bytes_eq (take (MAX_BYTES + 1) part) (codes "ffcert 1")) (bytes_eq (take (MAX_BYTES + 1) part) (codes "ffcert 2")) (bits && bytes_eq (take (MAX_BYTES + 1) part) (codes "ffcert 3")) refl refl refl

  bare_end : (part : List ℕ) → end_at wanted (origin bits) part ≡ Complete → ⊥
  unfolding is_complete
  bare_end part h = let e : false ≡ true = (end_complete wanted (origin bits) part h).0 in cc

  bare_parts : (part : List ℕ) (parts : List (List ℕ)) → text ≡ joined part parts → IsBare (read wanted (origin bits) part parts)
  unfolding read
  bare_parts part [] h = (refl, bare_end part)
  bare_parts part (next ∷ parts) h =
      subst IsBare (sym (read_next wanted (origin bits) part next parts (next_at wanted (origin bits) part) refl)) (bare_next part next parts h)

pub reads_no_other : ReadsNoOther
reads_no_other bits wanted text h =
    let p = parts_of is_line_end text in
    subst (λ (ps : List (List ℕ)). IsBare (read_parts wanted (origin bits) ps)) (sym p.split) (bare_parts bits wanted text (no_version bits text h) p.first p.others (split_joined text p.first p.others p.split))

entries_count : (xs : List Numbered) → length (entries_of xs) ≡ length xs
entries_count [] = refl
entries_count (x ∷ xs) = let h = entries_count xs in omega (arith, h)

accepted_by : (bits : Bool) (wanted : ℕ) (text : List ℕ) (v : Option ℕ) → version_of bits text ≡ v → (reading_of bits wanted text).end ≡ Complete → IsText bits wanted text
accepted_by bits wanted text None e h = absurd ((reads_no_other bits wanted text e).1 h)
accepted_by bits wanted text (Some version) e h =
    let r = reads_its_text bits wanted version text e in
    let w = r.whole h in
    record {
      version = version;
      entries = entries_of (reading_of bits wanted text).entries;
      known = (has_header bits text version e).known;
      readable = r.readable;
      count = entries_count (reading_of bits wanted text).entries ∙ w.1;
      text_is = r.text_is ∙ ap (λ (xs : List ℕ). text_of version (entries_of (reading_of bits wanted text).entries) ++ xs) w.0 ∙ append-nil (text_of version (entries_of (reading_of bits wanted text).entries));
    }

text_accepted : (bits : Bool) (wanted : ℕ) (text : List ℕ) → IsText bits wanted text → (reading_of bits wanted text).end ≡ Complete
text_accepted bits wanted text t =
    ap (λ (n : ℕ). (reading_of bits n text).end) (sym t.count) ∙ ap (λ (xs : List ℕ). (reading_of bits (length t.entries) xs).end) t.text_is
    ∙ ap (λ (r : Reading). r.end) (reads_back bits t.version t.entries t.known t.readable)

pub accepts_texts : AcceptsTexts
accepts_texts bits wanted text = (accepted_by bits wanted text (version_of bits text) refl, text_accepted bits wanted text)

-- What a reader gives.

at_place : {A : Type 0} (P : A → Type 0) (xs : List A) (n : ℕ) (x : A) → AllByRecursion P xs → slice_get xs n ≡ Some x → P x
at_place P [] n x h e = absurd (cc)
at_place P (y ∷ xs) zero x h e = let same : y ≡ x = cc in subst P same h.0
at_place P (y ∷ xs) (suc n) x h e = at_place P xs n x h.1 e

readable_at : (version : ℕ) (xs : List Numbered) (n : ℕ) (x : Numbered) → AllByRecursion (IsReadable version) (entries_of xs) → slice_get xs n ≡ Some x → IsReadable version x.entry
readable_at version [] n x h e = absurd (cc)
readable_at version (y ∷ xs) zero x h e = let same : y ≡ x = cc in subst (λ (z : Numbered). IsReadable version z.entry) same h.0
readable_at version (y ∷ xs) (suc n) x h e = readable_at version xs n x h.1 e

none_at : (xs : List Numbered) (n : ℕ) (x : Numbered) → xs ≡ [] → slice_get xs n ≡ Some x → ⊥
none_at xs n x h e = absurd (let e2 : slice_get [] n ≡ Some x = subst (λ (ys : List Numbered). slice_get ys n ≡ Some x) h e in cc)

given_by : (bits : Bool) (wanted : ℕ) (text : List ℕ) (n : ℕ) (x : Numbered) (v : Option ℕ) → version_of bits text ≡ v → slice_get (reading_of bits wanted text).entries n ≡ Some x → IsReadableIn v x.entry
given_by bits wanted text n x None e h = none_at (reading_of bits wanted text).entries n x (reads_no_other bits wanted text e).0 h
given_by bits wanted text n x (Some version) e h = readable_at version (reading_of bits wanted text).entries n x (reads_its_text bits wanted version text e).readable h

-- an entry is well formed in the version of the text
pub given_readable : (bits : Bool) (wanted : ℕ) (text : List ℕ) (n : ℕ) (x : Numbered) → slice_get (reading_of bits wanted text).entries n ≡ Some x → IsReadableIn (version_of bits text) x.entry
given_readable bits wanted text n x h = given_by bits wanted text n x (version_of bits text) refl h

number_at : (entries : List Entry) (first line n : ℕ) (x : Numbered) → slice_get (numbered_from first line entries) n ≡ Some x → x.number ≡ first + n
number_at [] first line n x h = absurd (cc)
number_at (e ∷ entries) first line zero x h =
    let given : Numbered = record { number = first; first_line = line; entry = e } in
    let same : given ≡ x = cc in
    omega (arith, ap (λ (y : Numbered). y.number) same)
number_at (e ∷ entries) first line (suc n) x h = let later = number_at entries (first + 1) (line + line_count e) n x h in omega (arith, later)

numbered_by : (bits : Bool) (wanted : ℕ) (text : List ℕ) (n : ℕ) (x : Numbered) (v : Option ℕ) → version_of bits text ≡ v → slice_get (reading_of bits wanted text).entries n ≡ Some x → x.number ≡ n + 1
numbered_by bits wanted text n x None e h = absurd (none_at (reading_of bits wanted text).entries n x (reads_no_other bits wanted text e).0 h)
numbered_by bits wanted text n x (Some version) e h =
    let is = (reads_its_text bits wanted version text e).numbers in
    let number = number_at (entries_of (reading_of bits wanted text).entries) 1 2 n x (ap (λ (xs : List Numbered). slice_get xs n) (sym is) ∙ h) in
    omega (arith, number)

-- an entry's number is one more than there are before it
pub given_number : (bits : Bool) (wanted : ℕ) (text : List ℕ) (n : ℕ) (x : Numbered) → slice_get (reading_of bits wanted text).entries n ≡ Some x → x.number ≡ n + 1
given_number bits wanted text n x h = numbered_by bits wanted text n x (version_of bits text) refl h

-- each line has a byte

pub lines_size : {A : Type 0} (text items : A → List ℕ) → ((x : A) → text x ≡ items x ++ 10 ∷ []) → (xs : List A) → length xs ≤ length (flat_map text xs)
lines_size text items h [] = omega arith
lines_size text items h (x ∷ xs) =
    let size : length (text x ++ flat_map text xs) ≡ length (text x) + length (flat_map text xs) = length-append (text x) (flat_map text xs) in
    let line : length (text x) ≡ length (items x) + 1 = ap (λ (ys : List ℕ). length ys) (h x) ∙ length-append (items x) (10 ∷ []) in
    let others = lines_size text items h xs in
    omega (arith, size, line, others)

body_size : (e : Entry) → line_count e ≤ length (body_of e) + 1
body_size (Sat values) = let h = lines_size value_line value_items (λ v. refl) values in omega (arith, h)
body_size UnsatCases = omega arith
body_size (UnsatSteps lines) = let h = lines_size line_text line_items (λ l. refl) lines in omega (arith, h)
body_size (Unknown cause) = omega arith

entry_size : (e : Entry) → line_count e ≤ length (entry_text e)
entry_size e = omega (arith, entry_length e, body_size e)

line_positive : (e : Entry) → 0 < line_count e
line_positive (Sat values) = omega arith
line_positive UnsatCases = omega arith
line_positive (UnsatSteps lines) = omega arith
line_positive (Unknown cause) = omega arith

all_weaker : {A : Type 0} (P Q : A → Type 0) → ((x : A) → P x → Q x) → (xs : List A) → AllByRecursion P xs → AllByRecursion Q xs
all_weaker P Q f [] h = tt
all_weaker P Q f (x ∷ xs) h = (f x h.0, all_weaker P Q f xs h.1)

lines_below : (entries : List Entry) (number line : ℕ) → AllByRecursion (λ x. x.first_line < line + length (flat_map entry_text entries)) (numbered_from number line entries)
lines_below [] number line = tt
lines_below (e ∷ entries) number line =
    let size : length (entry_text e ++ flat_map entry_text entries) ≡ length (entry_text e) + length (flat_map entry_text entries) = length-append (entry_text e) (flat_map entry_text entries) in
    let own = entry_size e in
    let some = line_positive e in (
      omega (arith, size, own, some),
      all_weaker (λ (x : Numbered). x.first_line < (line + line_count e) + length (flat_map entry_text entries)) (λ (x : Numbered). x.first_line < line + length (entry_text e ++ flat_map entry_text entries))
          (λ x h. omega (arith, h, size, own)) (numbered_from (number + 1) (line + line_count e) entries) (lines_below entries (number + 1) (line + line_count e)),
    )

header_size : (version : ℕ) → 2 ≤ length (header version)
header_size version = omega (arith, length-append (codes "ffcert" ++ (32 ∷ decimal version)) (10 ∷ []), length-append (codes "ffcert") (32 ∷ decimal version))

inside_by : (bits : Bool) (wanted : ℕ) (text : List ℕ) (v : Option ℕ) → version_of bits text ≡ v → AllByRecursion (λ x. x.first_line < length text) (reading_of bits wanted text).entries
unfolding text_of
inside_by bits wanted text None e = subst (AllByRecursion (λ (x : Numbered). x.first_line < length text)) (sym (reads_no_other bits wanted text e).0) tt
inside_by bits wanted text (Some version) e =
    let r = reads_its_text bits wanted version text e in
    let entries = entries_of (reading_of bits wanted text).entries in
    let size : length text ≡ length ((header version ++ flat_map entry_text entries) ++ r.more) = ap (λ (xs : List ℕ). length xs) r.text_is in
    let one = length-append (header version ++ flat_map entry_text entries) r.more in
    let two = length-append (header version) (flat_map entry_text entries) in
    let three = header_size version in
    subst (AllByRecursion (λ (x : Numbered). x.first_line < length text)) (sym r.numbers)
    (all_weaker (λ (x : Numbered). x.first_line < 2 + length (flat_map entry_text entries)) (λ (x : Numbered). x.first_line < length text)
    (λ x h. omega (arith, h, size, one, two, three)) (numbered_from 1 2 entries) (lines_below entries 1 2))

pub lines_are_inside : LinesAreInside
lines_are_inside bits wanted text = inside_by bits wanted text (version_of bits text) refl

pub given_line : (bits : Bool) (wanted : ℕ) (text : List ℕ) (n : ℕ) (x : Numbered) → slice_get (reading_of bits wanted text).entries n ≡ Some x → x.first_line < length text
given_line bits wanted text n x h = at_place (λ (y : Numbered). y.first_line < length text) (reading_of bits wanted text).entries n x (lines_are_inside bits wanted text) h
