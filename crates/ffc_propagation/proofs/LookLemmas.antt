-- A literal that is looked at, and what is written back.
use Rattle.std.proofs.Common.{inl, inr, ◌≡◌, ℕ, ◌+◌, ◌<◌, ◌≤◌, ◌==◌, Bool, true, false, List, ◌++◌, length, take, drop, count_by, get_or, slice_index_or, All, Option, Some, None, Result, Ok, Err, IfOk, refl, sym, ap, ◌∙◌, arith}
use Rattle.std.proofs.lemmas.Bool.{false≢true, cases_lt}
use Rattle.std.proofs.lemmas.List.{take-append-le, take_all, get_or_default, get_or_past}
use Rattle.ffc_clause.specs.Clauses.{Literal, Clause, minus, negated, is_among}
use Rattle.ffc_bounds.proofs.ForcedLemmas.{among-from_Contains}
use Rattle.ffc_propagation.specs.Settling.{IsSettling, IsSettledAt, IsSettled, TakesAll, Settles}
use Rattle.ffc_propagation.specs.Trails.{IsTrail, is_mark_of, is_true_at, mark_of}
use Rattle.ffc_propagation.specs.declared.occurrences.Occurrences.{Occurrences}
use Rattle.ffc_propagation.specs.declared.trail.Trail.{Trail}
use Rattle.ffc_propagation.proofs.SettlingLemmas.{settling_grown}

-- what was borrowed whole is written back whole
pub written_back : {A : Type 0} (n : ℕ) (xs ys : List A) → length xs ≡ length ys → length ys ≡ n → take n (xs ++ drop (length xs) ys) ≡ xs
written_back n xs ys same long = take-append-le n xs (drop (length xs) ys) (omega (arith, same, long)) ∙ take_all n xs (omega (arith, same, long))

-- a literal of a trail has a node with a mark
pub listed_within : (t : Trail) (i : ℕ) → IsTrail t → i < length t.literals.items → (get_or t.literals.items i (minus 0)).1 < length t.marks.items
listed_within t i s inside =
    let l = get_or t.literals.items i (minus 0) in
    elim (cases_lt l.1 (length t.marks.items)) as (λ _. l.1 < length t.marks.items) [
      | inl within ↦ within
      | inr past ↦
          let off : is_true_at t.marks.items l ≡ false = ap (is_mark_of l.0) (get_or_past t.marks.items l.1 None past) in
          let on : is_true_at t.marks.items l ≡ true = s.marked l ∙ among-from_Contains t.literals.items l (i, inside, get_or_default t.literals.items i l (minus 0) inside) in
          absurd (false≢true (sym off ∙ on))
    ]

-- the literal that was read
pub literal_read : (ls : List Literal) (i : ℕ) (x n : Literal) → i < length ls → x ≡ get_or ls i x → n ≡ negated x → n ≡ negated (get_or ls i (minus 0))
literal_read ls i x n inside is e = e ∙ ap negated (is ∙ get_or_default ls i x (minus 0) inside)

-- all clauses are settled after a row
pub row_settles : (clauses : List Clause) (looked : ℕ) (old t : Trail) (o : Occurrences) → IsSettling clauses looked old o → (b : Bool) → TakesAll clauses old t o b → Settles clauses looked old t o b
row_settles clauses looked old t o s true ended = ended
row_settles clauses looked old t o s false (grown, all) = (grown, record { state = settling_grown clauses looked old o s t grown; all = all })

pub if_ok : {A B : Type 0} {P Q : A → Type 0} → (r : Result A B) → IfOk r P → ((x : A) → P x → Q x) → IfOk r Q
if_ok (Ok x) holds next = next x holds
if_ok (Err e) holds next = tt
