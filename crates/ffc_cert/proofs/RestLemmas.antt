-- What has come of a line that is not whole.
use Rattle.std.proofs.Common.{◌≡◌, ℕ, suc, ◌+◌, ◌≤◌, ◌<◌, ◌==◌, Bool, true, false, List, [], ◌∷◌, ◌++◌, length, take, Option, Some, None, Result, Ok, Err, refl, ap, ◌∙◌, arith, length-append}
use Rattle.std.specs.Prelude.{nat_lt, codes, ◌&&◌, if◌then◌else◌}
use Rattle.std.specs.Str.{bytes_eq}
use Rattle.std.specs.List.{slice_split, onto_first, position_or_len}
use Rattle.std.proofs.lemmas.List.{take-append-le, length-take}
use Rattle.std.proofs.lemmas.List.Splits.{slice_split-cons_no}
use Rattle.std.proofs.lemmas.Slice.Eq.{bytes_eq-Decides}
use borrow.Author.Tests.{ltb-true}
use Rattle.ffc_cert.specs.declared.TheConstants.{MAX_BYTES}
use Rattle.ffc_cert.specs.declared.flaws.Flaw.{Flaw}
use Rattle.ffc_cert.specs.declared.entries.CertFault.{CertFault}
use Rattle.ffc_cert.specs.declared.entries.Numbered.{Numbered}
use Rattle.ffc_cert.specs.declared.progress.Place.{Place}
use Rattle.ffc_cert.specs.declared.progress.Place.TheVariants.{Header, Between, Assignment, Refutation}
use Rattle.ffc_cert.specs.declared.progress.Progress.{Progress}
use Rattle.ffc_cert.specs.Reading.{Stopped, Next, Halt, Move, Give, ending, limited, after, begun, with_value, with_line, header_line, opening_line, assignment_line, refutation_line, next_in, next_at, is_complete, end_after, end_at, cut_end, read, read_text, is_line_end, fault_at}
use Rattle.ffc_cert.specs.declared.forms.Awaited.{Awaited}
use Rattle.ffc_cert.specs.Lines.{opening_at, value_at, line_at}
use Rattle.ffc_cert.specs.Taking.{Takes}
use Rattle.ffc_cert.specs.Scan.{end_here}
use Rattle.ffc_cert.proofs.GrammarLemmas.{and_false}
use Rattle.ffc_cert.proofs.SplitLemmas.{Parts, parts_of}

-- without an LF, what comes first goes to the first part of what follows
cons_unended : (x : ℕ) (xs ys : List ℕ) (b : Bool) → is_line_end x ≡ b → suc (length xs) ≤ position_or_len is_line_end (x ∷ xs) → (is_line_end x ≡ false) × (length xs ≤ position_or_len is_line_end xs)
cons_unended x xs ys true h le = absurd (grind arith)
cons_unended x xs ys false h le = (h, grind arith)

pub split_unended : (xs ys : List ℕ) (parts : Parts is_line_end ys) → length xs ≤ position_or_len is_line_end xs
    → slice_split is_line_end (xs ++ ys) ≡ (xs ++ parts.first) ∷ parts.others
split_unended [] ys parts le = parts.split
split_unended (x ∷ xs) ys parts le =
    let h = cons_unended x xs ys (is_line_end x) refl le in
    slice_split-cons_no is_line_end x (xs ++ ys) h.0 ∙ ap (onto_first x) (split_unended xs ys parts h.1)

pub split_alone : (xs : List ℕ) → length xs ≤ position_or_len is_line_end xs → slice_split is_line_end xs ≡ xs ∷ []
split_alone [] le = refl
split_alone (x ∷ xs) le =
    let h = cons_unended x xs [] (is_line_end x) refl le in
    slice_split-cons_no is_line_end x xs h.0 ∙ ap (onto_first x) (split_alone xs h.1)

-- a part that is at fault as a line and as an end
part_halts : (wanted : ℕ) (p : Progress) (part : List ℕ) (fault : CertFault) → next_at wanted p part ≡ Halt fault → end_at wanted p part ≡ Stopped fault
    → (others : List (List ℕ)) → read wanted p part others ≡ ending (Stopped fault)
unfolding read
part_halts wanted p part fault h e [] = ap ending e
part_halts wanted p part fault h e (next ∷ parts) = rw (read, h) refl

pub rest_halts : (wanted : ℕ) (p : Progress) (bytes more : List ℕ) (fault : CertFault) → length bytes ≤ position_or_len is_line_end bytes
    → ((x : List ℕ) → (next_at wanted p (bytes ++ x) ≡ Halt fault) × (end_at wanted p (bytes ++ x) ≡ Stopped fault))
    → read_text wanted p (bytes ++ more) ≡ ending (Stopped fault)
rest_halts wanted p bytes more fault le h =
    let parts : Parts is_line_end more = parts_of is_line_end more in
    rw (split_unended bytes more parts le) (part_halts wanted p (bytes ++ parts.first) fault (h parts.first).0 (h parts.first).1 parts.others)

-- a line that is cut off reads as it did, whatever follows
cut_same : (wanted : ℕ) (p : Progress) (bytes x : List ℕ) → MAX_BYTES < length bytes → next_at wanted p (bytes ++ x) ≡ next_at wanted p bytes
unfolding next_at
cut_same wanted p bytes x lt = ap (λ (line : List ℕ). next_in p.place wanted p line) (take-append-le (MAX_BYTES + 1) bytes x (omega arith))

lt-ltb : (m n : ℕ) → m < n → nat_lt m n ≡ true
lt-ltb m n h = grind arith

pub cut_halts : (wanted : ℕ) (p : Progress) (bytes : List ℕ) (fault : CertFault) → MAX_BYTES < length bytes → next_at wanted p bytes ≡ Halt fault
    → (x : List ℕ) → (next_at wanted p (bytes ++ x) ≡ Halt fault) × (end_at wanted p (bytes ++ x) ≡ Stopped fault)
unfolding end_at cut_end
cut_halts wanted p bytes fault lt h x =
    let same : next_at wanted p (bytes ++ x) ≡ Halt fault = cut_same wanted p bytes x lt ∙ h in
    let long : nat_lt MAX_BYTES (length (bytes ++ x)) ≡ true = lt-ltb _ _ (omega (arith, length-append bytes x)) in
    (same, rw (long, same) refl)

complete_in : (place : Place) (wanted : ℕ) (p : Progress) (line : List ℕ) → is_complete place p.complete wanted ≡ true → next_in place wanted p line ≡ Halt (fault_at 2 p)
unfolding is_complete next_in
complete_in Header wanted p line h = absurd (cc)
complete_in Between wanted p line h = rw h refl
complete_in (Assignment left) wanted p line h = absurd (cc)
complete_in (Refutation awaited) wanted p line h = absurd (cc)

end_if : (b : Bool) (p : Progress) (c : ℕ) (cs : List ℕ) (n : Next) → n ≡ Halt (fault_at 2 p) → (if b then cut_end n p else end_after (c ∷ cs) p) ≡ Stopped (fault_at 2 p)
unfolding cut_end end_after
end_if true p c cs n h = rw h refl
end_if false p c cs n h = refl

-- after the last entry each byte is at fault
pub complete_halts : (wanted : ℕ) (p : Progress) (c : ℕ) (cs : List ℕ) → is_complete p.place p.complete wanted ≡ true
    → (x : List ℕ) → (next_at wanted p ((c ∷ cs) ++ x) ≡ Halt (fault_at 2 p)) × (end_at wanted p ((c ∷ cs) ++ x) ≡ Stopped (fault_at 2 p))
unfolding next_at end_at
complete_halts wanted p c cs h x =
    let line : next_in p.place wanted p (take (MAX_BYTES + 1) ((c ∷ cs) ++ x)) ≡ Halt (fault_at 2 p) = complete_in p.place wanted p _ h in
    (line, rw h (end_if (nat_lt MAX_BYTES (length ((c ∷ cs) ++ x))) p c (cs ++ x) _ line))

-- a line of which too many bytes have come is at fault
abbrev pub IsHalt : Next → Type 0
IsHalt (Halt fault) = Unit {0}
IsHalt (Move q) = ⊥
IsHalt (Give entry q) = ⊥

limited_long : {A : Type 0} (line : List ℕ) (p : Progress) (r : Result A Flaw) (next : A → Next) → MAX_BYTES < length line → IsHalt (after (limited line p r) next)
unfolding limited
limited_long line p (Err flaw) next lt = tt
limited_long line p (Ok read) next lt =
    let long : nat_lt MAX_BYTES (p.bytes + (length line + 1)) ≡ true = lt-ltb _ _ (omega arith) in rw long tt

pub no_match : (a b : List ℕ) (r : Bool) → bytes_eq a b ≡ r → length b < length a → r ≡ false
no_match a b true h lt = absurd (let same : a ≡ b = (bytes_eq-Decides a b).0 h in omega (arith, ap length same))
no_match a b false h lt = refl

header_long : (p : Progress) (line : List ℕ) → MAX_BYTES < length line → IsHalt (header_line p line)
unfolding header_line
header_long p line lt =
    let one : bytes_eq line (codes "ffcert 1") ≡ false = no_match line (codes "ffcert 1") _ refl (omega arith) in
    let two : bytes_eq line (codes "ffcert 2") ≡ false = no_match line (codes "ffcert 2") _ refl (omega arith) in
    let three : bytes_eq line (codes "ffcert 3") ≡ false = no_match line (codes "ffcert 3") _ refl (omega arith) in
    rw (one, two, three, and_false p.bits) tt

opening_long : (p : Progress) (line : List ℕ) → MAX_BYTES < length line → IsHalt (opening_line p line)
unfolding opening_line
opening_long p line lt = limited_long line p (opening_at line) (begun (length line + 1) p) lt

value_long : (left : ℕ) (p : Progress) (line : List ℕ) → MAX_BYTES < length line → IsHalt (assignment_line left p line)
unfolding assignment_line
value_long left p line lt = limited_long line p (value_at line) (with_value left (length line + 1) p) lt

refutation_long : (awaited : Awaited) (p : Progress) (line : List ℕ) → MAX_BYTES < length line → IsHalt (refutation_line awaited p line)
unfolding refutation_line
refutation_long awaited p line lt = limited_long line p (line_at p.version awaited line) (with_line awaited (length line + 1) p) lt

between_long : (b : Bool) (p : Progress) (line : List ℕ) → MAX_BYTES < length line → IsHalt (if b then Halt (fault_at 2 p) else opening_line p line)
between_long true p line lt = tt
between_long false p line lt = opening_long p line lt

long_in : (place : Place) (wanted : ℕ) (p : Progress) (line : List ℕ) → MAX_BYTES < length line → IsHalt (next_in place wanted p line)
unfolding next_in
long_in Header wanted p line lt = header_long p line lt
long_in Between wanted p line lt = between_long (p.complete == wanted) p line lt
long_in (Assignment left) wanted p line lt = value_long left p line lt
long_in (Refutation awaited) wanted p line lt = refutation_long awaited p line lt

pub long_halts : (wanted : ℕ) (p : Progress) (bytes : List ℕ) (n : Next) → MAX_BYTES < length bytes → next_at wanted p bytes ≡ n → IsHalt n
unfolding next_at
long_halts wanted p bytes n lt h = rw (← h) (long_in p.place wanted p (take (MAX_BYTES + 1) bytes) (omega (arith, length-take (MAX_BYTES + 1) bytes)))

rest_end : (wanted : ℕ) (p : Progress) (bytes : List ℕ) (b : Bool) → is_complete p.place p.complete wanted ≡ b → length bytes ≤ MAX_BYTES
    → (is_complete p.place p.complete wanted ≡ true → bytes ≡ []) → end_at wanted p bytes ≡ end_here wanted p
unfolding end_at end_after end_here
rest_end wanted p bytes true e few h = let short : nat_lt MAX_BYTES (length bytes) ≡ false = grind arith in rw (short, e, h e) refl
rest_end wanted p bytes false e few h = let short : nat_lt MAX_BYTES (length bytes) ≡ false = grind arith in rw (short, e) refl

-- the bytes are few, and not after the last entry: nothing is found
pub none_found : (wanted : ℕ) (p : Progress) (bytes : List ℕ) → length bytes ≤ position_or_len is_line_end bytes → length bytes ≤ MAX_BYTES
    → (is_complete p.place p.complete wanted ≡ true → bytes ≡ [])
    → ((read_text wanted p bytes).entries ≡ []) × ((read_text wanted p bytes).end ≡ end_here wanted p)
unfolding read
none_found wanted p bytes le few h = rw (split_alone bytes le) (refl, rest_end wanted p bytes (is_complete p.place p.complete wanted) refl few h)

pub both_true : (a b : Bool) → (a && b) ≡ true → (a ≡ true) × (b ≡ true)
both_true true b h = (refl, h)
both_true false b h = absurd (cc)

pub over_halts : (wanted : ℕ) (p : Progress) (bytes : List ℕ) → (is_complete p.place p.complete wanted && nat_lt 0 (length bytes)) ≡ true
    → (x : List ℕ) → (next_at wanted p (bytes ++ x) ≡ Halt (fault_at 2 p)) × (end_at wanted p (bytes ++ x) ≡ Stopped (fault_at 2 p))
over_halts wanted p [] h x = absurd (let some = ltb-true 0 0 (both_true (is_complete p.place p.complete wanted) (nat_lt 0 0) h).1 in omega (arith, some))
over_halts wanted p (c ∷ cs) h x = complete_halts wanted p c cs (both_true _ _ h).0 x

pub not_over : (b : Bool) (bytes : List ℕ) → (b && nat_lt 0 (length bytes)) ≡ false → b ≡ true → bytes ≡ []
not_over b [] h t = refl
not_over true (c ∷ cs) h t = absurd (let some : nat_lt 0 (length (c ∷ cs)) ≡ true = lt-ltb _ _ (omega arith) in cc)
not_over false (c ∷ cs) h t = absurd (cc)

pub never_ok : (wanted : ℕ) (p q : Progress) (bytes : List ℕ) (taken : Option Numbered) → MAX_BYTES < length bytes → Takes (Ok taken) p q (next_at wanted p bytes) → ⊥
never_ok wanted p q bytes None lt h = long_halts wanted p bytes (Move q) lt h
never_ok wanted p q bytes (Some entry) lt h = long_halts wanted p bytes (Give entry q) lt h
