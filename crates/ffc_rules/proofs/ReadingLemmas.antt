-- A certificate that is read to its end has as many entries as were wanted.
use Rattle.std.proofs.Common.{◌≡◌, ℕ, ◌+◌, ◌==◌, ◌&&◌, nat_lt, Bool, true, false, cond, List, [], ◌∷◌, length, take, Result, Ok, Err, refl, sym, subst, arith, codes}
use Rattle.std.proofs.lemmas.Bool.{false≢true, eqb-true}
use Rattle.std.specs.Str.{bytes_eq}
use Rattle.std.specs.List.{slice_split}
use Rattle.ffc_cert.specs.declared.TheConstants.{MAX_BYTES}
use Rattle.ffc_cert.specs.declared.entries.CertFault.{CertFault}
use Rattle.ffc_cert.specs.declared.entries.CertLine.{CertLine}
use Rattle.ffc_cert.specs.declared.forms.Opening.{Opening}
use Rattle.ffc_cert.specs.declared.forms.Opening.TheVariants as openings
use Rattle.ffc_cert.specs.declared.forms.Awaited.{Awaited}
use Rattle.ffc_cert.specs.declared.progress.Place.{Place}
use Rattle.ffc_cert.specs.declared.progress.Place.TheVariants.{Header, Between, Assignment, Refutation}
use Rattle.ffc_cert.specs.declared.progress.Progress.{Progress}
use Rattle.ffc_cert.specs.Lines.{opening_at, value_at, line_at}
use Rattle.ffc_cert.specs.Reading.{Next, Halt, Move, Give, End, Complete, Open, Stopped, Reading, awaited_after, is_whole, begun, with_value, with_line, limited, after, header_line, opening_line, assignment_line, refutation_line, fault_at, next_in, next_at, read, read_parts, reading_of, origin, is_line_end, end_at, is_complete, end_after, cut_end}

-- each entry that is given counts one
Counts : Progress → Next → Type 0
Counts p (Halt fault) = Unit {0}
Counts p (Move q) = q.complete ≡ p.complete
Counts p (Give entry q) = q.complete ≡ p.complete + 1

either : (p : Progress) (b : Bool) (x y : Next) → Counts p x → Counts p y → Counts p (cond b x y)
either p true x y one two = one
either p false x y one two = two

after_counts : {A : Type 0} (p : Progress) (r : Result A CertFault) (next : A → Next) → ((x : A) → Counts p (next x)) → Counts p (after r next)
unfolding Counts
after_counts p (Err fault) next all = tt
after_counts p (Ok x) next all = all x

begun_counts : (size : ℕ) (p : Progress) (o : Opening) → Counts p (begun size p o)
unfolding Counts begun
begun_counts size p (openings.Assignment n) = either p (n == 0) _ _ refl refl
begun_counts size p (openings.Refutation n) = either p (n == 0) _ _ refl refl
begun_counts size p (openings.Whole entry) = refl

value_counts : (left size : ℕ) (p : Progress) (v : ℕ × ℕ) → Counts p (with_value left size p v)
unfolding Counts with_value
value_counts left size p v = either p (left == 1) _ _ refl refl

line_counts : (a : Awaited) (size : ℕ) (p : Progress) (x : CertLine) → Counts p (with_line a size p x)
unfolding Counts with_line
line_counts a size p x = either p (is_whole (awaited_after x a)) _ _ refl refl

next_counts : (place : Place) (wanted : ℕ) (p : Progress) (line : List ℕ) → Counts p (next_in place wanted p line)
unfolding Counts next_in header_line opening_line assignment_line refutation_line
next_counts Header wanted p line = either p (bytes_eq line (codes "ffcert 1")) _ _ refl (either p (bytes_eq line (codes "ffcert 2")) _ _ refl (either p (p.bits && bytes_eq line (codes "ffcert 3")) _ _ refl tt))
next_counts Between wanted p line = either p (p.complete == wanted) _ _ tt (after_counts p (limited line p (opening_at line)) _ (begun_counts (length line + 1) p))
next_counts (Assignment left) wanted p line = after_counts p (limited line p (value_at line)) _ (value_counts left (length line + 1) p)
next_counts (Refutation awaited) wanted p line = after_counts p (limited line p (line_at p.version awaited line)) _ (line_counts awaited (length line + 1) p)

-- the text ends with the last entry
IsComplete : End → Type 0
IsComplete Complete = Unit {0}
IsComplete (Open fault) = ⊥
IsComplete (Stopped fault) = ⊥

cut_never : (next : Next) (p : Progress) → IsComplete (cut_end next p) → ⊥
unfolding IsComplete cut_end
cut_never (Halt fault) p is = is
cut_never (Move q) p is = is
cut_never (Give entry q) p is = is

behind_all : (place : Place) (complete wanted : ℕ) → is_complete place complete wanted ≡ true → complete ≡ wanted
unfolding is_complete
behind_all Header complete wanted e = absurd (false≢true e)
behind_all Between complete wanted e = eqb-true complete wanted e
behind_all (Assignment left) complete wanted e = absurd (false≢true e)
behind_all (Refutation awaited) complete wanted e = absurd (false≢true e)

end_counts : (wanted : ℕ) (p : Progress) (rest : List ℕ) → IsComplete (end_at wanted p rest) → p.complete ≡ wanted
unfolding end_at IsComplete
end_counts wanted p rest is = by_size (nat_lt MAX_BYTES (length rest)) (is_complete p.place p.complete wanted) refl is
  where
    by_size : (long beyond : Bool) → is_complete p.place p.complete wanted ≡ beyond → IsComplete (cond long (cut_end (next_at wanted p rest) p) (cond beyond (end_after rest p) (Open (fault_at 4 p)))) → p.complete ≡ wanted
    by_size true beyond e is = absurd (cut_never (next_at wanted p rest) p is)
    by_size false true e is = behind_all p.place p.complete wanted e
    by_size false false e is = absurd is

read_counts : (wanted : ℕ) (p : Progress) (part : List ℕ) (parts : List (List ℕ)) → IsComplete (read wanted p part parts).end → p.complete + length (read wanted p part parts).entries ≡ wanted
unfolding read next_at Counts IsComplete
read_counts wanted p part [] is = let e = end_counts wanted p part is in omega arith
read_counts wanted p part (next ∷ parts) is = by_next (next_at wanted p part) (counted) is (λ q. read_counts wanted q next parts)
  where
    counted : Counts p (next_at wanted p part)
    counted = next_counts p.place wanted p (take (MAX_BYTES + 1) part)

    by_next : (n : Next) → Counts p n → IsComplete (elim n as (λ _. Reading) [ Halt fault ↦ record { entries = []; end = Stopped fault } | Move q ↦ read wanted q next parts | Give entry q ↦ record { entries = entry ∷ (read wanted q next parts).entries; end = (read wanted q next parts).end } ]).end
        → ((q : Progress) → IsComplete (read wanted q next parts).end → q.complete + length (read wanted q next parts).entries ≡ wanted)
        → p.complete + length (elim n as (λ _. Reading) [ Halt fault ↦ record { entries = []; end = Stopped fault } | Move q ↦ read wanted q next parts | Give entry q ↦ record { entries = entry ∷ (read wanted q next parts).entries; end = (read wanted q next parts).end } ]).entries ≡ wanted
    by_next (Halt fault) counts is later = absurd is
    by_next (Move q) counts is later = let e = later q is in omega (arith, counts, e)
    by_next (Give entry q) counts is later = let e = later q is in omega (arith, counts, e)

-- a text that is read to its end has as many entries as were wanted
pub all_read : (bits : Bool) (wanted : ℕ) (text : List ℕ) → (reading_of bits wanted text).end ≡ Complete → length (reading_of bits wanted text).entries ≡ wanted
unfolding IsComplete
all_read bits wanted text e = by_parts (slice_split is_line_end text) (subst IsComplete (sym e) is)
  where
    is : IsComplete Complete
    is = tt

    by_parts : (parts : List (List ℕ)) → IsComplete (read_parts wanted (origin bits) parts).end → length (read_parts wanted (origin bits) parts).entries ≡ wanted
    by_parts [] ends = let k = end_counts wanted (origin bits) [] ends in omega arith
    by_parts (part ∷ parts) ends = let k = read_counts wanted (origin bits) part parts ends in omega arith
