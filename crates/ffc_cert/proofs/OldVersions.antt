-- Where a text does not begin with line 1 of version 3, it is the same whether version 3 is read.
use Rattle.std.proofs.Common.{◌≡◌, ℕ, ◌+◌, ◌<◌, ◌==◌, Bool, true, false, cond, List, [], ◌∷◌, ◌++◌, length, take, Result, Ok, Err, refl, sym, ap, ◌∙◌, subst, arith}
use Rattle.std.specs.Prelude.{codes, nat_lt, nat_eq, if◌then◌else◌}
use Rattle.std.specs.List.{starts_with}
use Rattle.std.specs.Str.{bytes_eq}
use Rattle.std.proofs.lemmas.Bool.{ltb-true}
use Rattle.std.proofs.lemmas.List.{length-take}
use Rattle.std.proofs.lemmas.Slice.Eq.{bytes_eq-Decides}
use Rattle.ffc_cert.specs.declared.TheConstants.{MAX_BYTES}
use Rattle.ffc_cert.specs.declared.flaws.Flaw.{Flaw}
use Rattle.ffc_cert.specs.declared.entries.CertFault.{CertFault}
use Rattle.ffc_cert.specs.declared.forms.Opening.{Opening}
use Rattle.ffc_cert.specs.declared.forms.Opening.TheVariants as openings
use Rattle.ffc_cert.specs.declared.progress.Place.{Place}
use Rattle.ffc_cert.specs.declared.progress.Place.TheVariants.{Header, Between, Assignment, Refutation}
use Rattle.ffc_cert.specs.declared.progress.Progress.{Progress}
use Rattle.ffc_cert.specs.Lines.{line_at, value_at, opening_at}
use Rattle.ffc_cert.specs.Reading.{Reading, Open, ending, with_entry, Next, Halt, Move, Give, is_whole, awaited_after, fault_at, begun, with_value, with_line, limited, after, header_line, opening_line, assignment_line, refutation_line, next_in, next_at, read, read_parts, origin, is_line_end, end_at, cut_end, end_after, is_complete}
use Rattle.ffc_cert.specs.Laws.{ReadsOldVersions}
use Rattle.ffc_cert.proofs.ReadLemmas.{after_next, read_next}
use Rattle.ffc_cert.proofs.RestLemmas.{no_match}
use Rattle.ffc_cert.proofs.SplitLemmas.{parts_of}
use Rattle.ffc_cert.proofs.TextLemmas.{joined, split_joined, never_named}

-- the same state, where version 3 is read or not
abbrev flagged : Bool → Progress → Progress
flagged b p = record p { bits = b }

-- line 1 was read
abbrev Began : Place → Type 0
Began Header = ⊥
Began Between = Unit {0}
Began (Assignment left) = Unit {0}
Began (Refutation awaited) = Unit {0}

-- after line 1, and the same but for the flag
abbrev IsLike : Bool → Next → Next → Type 0
IsLike b (Halt fault) m = m ≡ Halt fault
IsLike b (Move q) m = (m ≡ Move (flagged b q)) × Began q.place
IsLike b (Give entry q) m = (m ≡ Give entry (flagged b q)) × Began q.place

module _ (b : Bool) where
  like_if : (test : Bool) (n₁ n₂ m₁ m₂ : Next) → IsLike b n₁ m₁ → IsLike b n₂ m₂ → IsLike b (if test then n₁ else n₂) (if test then m₁ else m₂)
  like_if true n₁ n₂ m₁ m₂ h k = h
  like_if false n₁ n₂ m₁ m₂ h k = k

  like_after : {A : Type 0} (r s : Result A CertFault) (next other : A → Next) → s ≡ r → ((x : A) → IsLike b (next x) (other x)) → IsLike b (after r next) (after s other)
  like_after (Err fault) s next other h k = ap (λ r. after r other) h
  like_after (Ok x) s next other h k = subst (λ r. IsLike b (next x) (after r other)) (sym h) (k x)

  module _ (p : Progress) where
    limited_same : {A : Type 0} (line : List ℕ) (r : Result A Flaw) → limited line (flagged b p) r ≡ limited line p r
    unfolding limited
    limited_same line (Err flaw) = refl
    limited_same line (Ok x) = refl

    begun_like : (size : ℕ) (o : Opening) → IsLike b (begun size p o) (begun size (flagged b p) o)
    unfolding begun
    begun_like size (openings.Assignment n) = like_if (n == 0) _ _ _ _ (refl, tt) (refl, tt)
    begun_like size (openings.Refutation n) = like_if (n == 0) _ _ _ _ (refl, tt) (refl, tt)
    begun_like size (openings.Whole entry) = (refl, tt)

    place_like : (place : Place) (wanted : ℕ) (line : List ℕ) → Began place → IsLike b (next_in place wanted p line) (next_in place wanted (flagged b p) line)
    unfolding next_in opening_line assignment_line refutation_line with_value with_line
    place_like Header wanted line h = absurd h
    place_like Between wanted line h =
        like_if (p.complete == wanted) _ _ _ _ refl (like_after (limited line p (opening_at line)) (limited line (flagged b p) (opening_at line)) (begun (length line + 1) p) (begun (length line + 1) (flagged b p)) (limited_same line (opening_at line)) (begun_like (length line + 1)))
    place_like (Assignment left) wanted line h =
        like_after (limited line p (value_at line)) (limited line (flagged b p) (value_at line)) (with_value left (length line + 1) p) (with_value left (length line + 1) (flagged b p)) (limited_same line (value_at line))
        (λ v. like_if (left == 1) _ _ _ _ (refl, tt) (refl, tt))
    place_like (Refutation a) wanted line h =
        like_after (limited line p (line_at p.version a line)) (limited line (flagged b p) (line_at p.version a line)) (with_line a (length line + 1) p) (with_line a (length line + 1) (flagged b p)) (limited_same line (line_at p.version a line))
        (λ l. like_if (is_whole (awaited_after l a)) _ _ _ _ (refl, tt) (refl, tt))

    next_like : (wanted : ℕ) (line : List ℕ) → Began p.place → IsLike b (next_at wanted p line) (next_at wanted (flagged b p) line)
    unfolding next_at
    next_like wanted line h = place_like p.place wanted (take (MAX_BYTES + 1) line) h

    cut_same : (n m : Next) → IsLike b n m → cut_end m (flagged b p) ≡ cut_end n p
    unfolding cut_end
    cut_same (Halt fault) m h = ap (λ x. cut_end x (flagged b p)) h
    cut_same (Move q) m h = ap (λ x. cut_end x (flagged b p)) h.0
    cut_same (Give entry q) m h = ap (λ x. cut_end x (flagged b p)) h.0

    after_same : (rest : List ℕ) → end_after rest (flagged b p) ≡ end_after rest p
    unfolding end_after
    after_same [] = refl
    after_same (c ∷ cs) = refl

    -- the bytes after the last LF, where the next line is the same
    end_same : (wanted : ℕ) (rest : List ℕ) → (MAX_BYTES < length rest → IsLike b (next_at wanted p rest) (next_at wanted (flagged b p) rest)) → end_at wanted (flagged b p) rest ≡ end_at wanted p rest
    unfolding end_at
    end_same wanted rest h = by (nat_lt MAX_BYTES (length rest)) refl (is_complete p.place p.complete wanted)
      where
        by : (long : Bool) → nat_lt MAX_BYTES (length rest) ≡ long → (all : Bool)
            → cond long (cut_end (next_at wanted (flagged b p) rest) (flagged b p)) (cond all (end_after rest (flagged b p)) (Open (fault_at 4 p))) ≡ cond long (cut_end (next_at wanted p rest) p) (cond all (end_after rest p) (Open (fault_at 4 p)))
        by true e all = cut_same (next_at wanted p rest) (next_at wanted (flagged b p) rest) (h (ltb-true MAX_BYTES (length rest) e))
        by false e true = after_same rest
        by false e false = refl

  after_like : (n m : Next) → IsLike b n m → (more : Progress → Reading) → ((q : Progress) → Began q.place → more (flagged b q) ≡ more q) → after_next m more ≡ after_next n more
  after_like (Halt fault) m h more k = ap (λ x. after_next x more) h
  after_like (Move q) m h more k = ap (λ x. after_next x more) h.0 ∙ k q h.1
  after_like (Give entry q) m h more k = ap (λ x. after_next x more) h.0 ∙ ap (with_entry entry) (k q h.1)

  -- a line, and then what follows it
  read_one : (wanted : ℕ) (part next : List ℕ) (parts : List (List ℕ)) (p : Progress) → IsLike b (next_at wanted p part) (next_at wanted (flagged b p) part)
      → ((q : Progress) → Began q.place → read wanted (flagged b q) next parts ≡ read wanted q next parts) → read wanted (flagged b p) part (next ∷ parts) ≡ read wanted p part (next ∷ parts)
  read_one wanted part next parts p h more =
      read_next wanted (flagged b p) part next parts (next_at wanted (flagged b p) part) refl
      ∙ after_like (next_at wanted p part) (next_at wanted (flagged b p) part) h (λ q. read wanted q next parts) more
      ∙ sym (read_next wanted p part next parts (next_at wanted p part) refl)

  -- what follows line 1
  read_same : (wanted : ℕ) (parts : List (List ℕ)) (part : List ℕ) (p : Progress) → Began p.place → read wanted (flagged b p) part parts ≡ read wanted p part parts
  unfolding read
  read_same wanted [] part p h = ap ending (end_same p wanted part (λ long. next_like p wanted part h))
  read_same wanted (next ∷ parts) part p h = read_one wanted part next parts p (next_like p wanted part h) (λ q k. read_same wanted parts next q k)

-- line 1

header_like : (line : List ℕ) → bytes_eq line (codes "ffcert 3") ≡ false → IsLike true (header_line (origin false) line) (header_line (origin true) line)
unfolding header_line
header_like line other =
    like_if true (bytes_eq line (codes "ffcert 1")) _ _ _ _ (refl, tt) (like_if true (bytes_eq line (codes "ffcert 2")) _ _ _ _ (refl, tt) (rw other refl))

header_next : (wanted : ℕ) (part : List ℕ) → bytes_eq (take (MAX_BYTES + 1) part) (codes "ffcert 3") ≡ false → IsLike true (next_at wanted (origin false) part) (next_at wanted (origin true) part)
unfolding next_at next_in
header_next wanted part other = header_like (take (MAX_BYTES + 1) part) other

not_line : (text part rest : List ℕ) → text ≡ part ++ (10 ∷ rest) → starts_with nat_eq text (codes "ffcert 3\n") ≡ false
    → (same : Bool) → bytes_eq (take (MAX_BYTES + 1) part) (codes "ffcert 3") ≡ same → same ≡ false
not_line text part rest h none true e =
    absurd (never_named (codes "ffcert 3") (take (MAX_BYTES + 1) part) part rest text h refl (omega arith) ((bytes_eq-Decides (take (MAX_BYTES + 1) part) (codes "ffcert 3")).0 e) none)
not_line text part rest h none false e = refl

old_parts : (wanted : ℕ) (text : List ℕ) → starts_with nat_eq text (codes "ffcert 3\n") ≡ false → (parts : List (List ℕ)) (part : List ℕ) → text ≡ joined part parts
    → read wanted (origin true) part parts ≡ read wanted (origin false) part parts
unfolding read
old_parts wanted text none [] part h =
    ap ending (end_same true (origin false) wanted part (λ long. header_next wanted part (no_match (take (MAX_BYTES + 1) part) (codes "ffcert 3") _ refl (omega (arith, long, length-take (MAX_BYTES + 1) part)))))
old_parts wanted text none (next ∷ parts) part h =
    read_one true wanted part next parts (origin false) (header_next wanted part (not_line text part (joined next parts) h none _ refl)) (λ q k. read_same true wanted parts next q k)

pub reads_old_versions : ReadsOldVersions
reads_old_versions wanted text none =
    let p = parts_of is_line_end text in
    ap (read_parts wanted (origin true)) p.split
    ∙ old_parts wanted text none p.others p.first (split_joined text p.first p.others p.split)
    ∙ sym (ap (read_parts wanted (origin false)) p.split)
