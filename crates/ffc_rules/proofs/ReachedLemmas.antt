-- What is reached from the last clause of a refutation is the least list that has it and, with each clause, its hints.
use Rattle.std.proofs.Common.{inl, inr, ◌≡◌, ℕ, zero, suc, ◌+◌, ◌-◌, ◌<◌, nat_lt, Bool, true, false, cond, ◌&&◌, List, [], ◌∷◌, ◌++◌, length, Contains, Some, None, Ok, refl, sym, ap, ◌∙◌, subst, arith, slice_get, length-append}
use Rattle.std.specs.List.{list_all}
use Rattle.std.proofs.lemmas.Bool.{false≢true, and_parts, ltb-true}
use Rattle.std.proofs.lemmas.List.Elements.{All-contains, Contains-append_left, Contains-append_right, Contains-append_cases, Contains-push_cases}
use Rattle.std.proofs.lemmas.List.Sums.{AllPass-from_list_all}
use Rattle.std.proofs.lemmas.Option.{none-some, same_Some}
use Rattle.ffc_cert.specs.declared.entries.CertLine.{CertLine}
use Rattle.ffc_cert.specs.declared.entries.CertLine.TheVariants.{Assume, Scheme, Hinted, Lemma, Combine, Bits, Chain, Step, Split, Values, Close}
use Rattle.ffc_cert.specs.declared.entries.Entry.TheVariants.{UnsatSteps}
use Rattle.ffc_clause.specs.Clauses.{Clause}
use Rattle.ffc_term.proofs.ListLemmas.{nothing_in}
use Rattle.ffc_rules.specs.Cones.{is_listed}
use Rattle.ffc_rules.specs.Cores.{AreClosedUnderHints, clause_lines, hints_of, reached_clauses}
use Rattle.ffc_rules.specs.Entries.{NodeCheck, Limits, Given, clause_given, entry_fault_within, is_boolean}
use Rattle.ffc_rules.specs.Refutations.{Gives}
use Rattle.ffc_rules.specs.Refutations.Gives.{nothing, next}
use Rattle.ffc_rules.specs.Laws.{AreLeastReached}
use Rattle.ffc_rules.proofs.ConeLemmas.{Contains-from_listed, listed-from_Contains}
use Rattle.ffc_rules.proofs.GivenLemmas.{chosen_ok}
use Rattle.ffc_rules.proofs.EntryLemmas.{trees_hold_none}
use Rattle.ffc_rules.proofs.StepLemmas.{NoClauses, taken_by_clause}
use Rattle.ffc_rules.proofs.KeptLemmas.{refutations_kept}

-- each hint of these clauses, the first of which is numbered k, names an earlier one
abbrev AreEarlier : ℕ → List CertLine → Type 0
AreEarlier k [] = Unit {0}
AreEarlier k (x ∷ rest) = ((h : ℕ) → Contains (hints_of x) h → h < k) × AreEarlier (k + 1) rest

-- the last clause is reached
last_reached : (k : ℕ) (xs : List CertLine) → Contains (reached_clauses k xs) (k + length xs - 1)
unfolding reached_clauses
last_reached k [] = let e : k - 1 ≡ k + 0 - 1 = omega arith in (0, omega arith, e)
last_reached k (x ∷ rest) =
    let e : k + 1 + length rest - 1 ≡ k + length (x ∷ rest) - 1 = omega arith in
    by_case (is_listed (reached_clauses (k + 1) rest) k) (subst (Contains (reached_clauses (k + 1) rest)) e (last_reached (k + 1) rest))
  where
    by_case : (b : Bool) → Contains (reached_clauses (k + 1) rest) (k + length (x ∷ rest) - 1) → Contains (cond b (hints_of x ++ reached_clauses (k + 1) rest) (reached_clauses (k + 1) rest)) (k + length (x ∷ rest) - 1)
    by_case true has = Contains-append_right (hints_of x) (reached_clauses (k + 1) rest) _ has
    by_case false has = has

-- with each reached clause, its hints are
hints_reached : (k : ℕ) (xs : List CertLine) → AreEarlier k xs → (i : ℕ) (y : CertLine) (h : ℕ) → slice_get xs i ≡ Some y → Contains (reached_clauses k xs) (k + i) → Contains (hints_of y) h → Contains (reached_clauses k xs) h
unfolding reached_clauses
hints_reached k [] early i y h at has mine = absurd (none-some y at)
hints_reached k (x ∷ rest) early zero y h at has mine =
    by_case (is_listed (reached_clauses (k + 1) rest) k) refl (let e : k + 0 ≡ k = omega arith in subst (Contains (reached_clauses k (x ∷ rest))) e has)
  where
    own : Contains (hints_of x) h
    own = subst (λ z. Contains (hints_of z) h) (sym (same_Some x y at)) mine

    by_case : (b : Bool) → is_listed (reached_clauses (k + 1) rest) k ≡ b → Contains (cond b (hints_of x ++ reached_clauses (k + 1) rest) (reached_clauses (k + 1) rest)) k
        → Contains (cond b (hints_of x ++ reached_clauses (k + 1) rest) (reached_clauses (k + 1) rest)) h
    by_case true e now = Contains-append_left (hints_of x) (reached_clauses (k + 1) rest) h own
    by_case false e now = absurd (false≢true (sym e ∙ listed-from_Contains (reached_clauses (k + 1) rest) k now))
hints_reached k (x ∷ rest) early (suc i) y h at has mine =
    by_case (is_listed (reached_clauses (k + 1) rest) k) has (λ above. hints_reached (k + 1) rest early.1 i y h at (subst (Contains (reached_clauses (k + 1) rest)) place above) mine)
  where
    place : k + suc i ≡ k + 1 + i
    place = omega arith

    by_case : (b : Bool) → Contains (cond b (hints_of x ++ reached_clauses (k + 1) rest) (reached_clauses (k + 1) rest)) (k + suc i)
        → (Contains (reached_clauses (k + 1) rest) (k + suc i) → Contains (reached_clauses (k + 1) rest) h) → Contains (cond b (hints_of x ++ reached_clauses (k + 1) rest) (reached_clauses (k + 1) rest)) h
    by_case true now on =
        elim (Contains-append_cases (hints_of x) (reached_clauses (k + 1) rest) (k + suc i) now) as (λ _. Contains (hints_of x ++ reached_clauses (k + 1) rest) h) [
          | inl later ↦ absurd (omega (arith, early.0 (k + suc i) later))
          | inr above ↦ Contains-append_right (hints_of x) (reached_clauses (k + 1) rest) h (on above)
        ]
    by_case false now on = on now

-- the clauses from a place on, the first of which is numbered k
abbrev IsPart : List CertLine → ℕ → List CertLine → Type 0
IsPart all k part = (i : ℕ) (y : CertLine) → slice_get part i ≡ Some y → slice_get all (k + i) ≡ Some y

part_next : (all : List CertLine) (k : ℕ) (x : CertLine) (part : List CertLine) → IsPart all k (x ∷ part) → IsPart all (k + 1) part
part_next all k x part is i y at = let e : k + suc i ≡ k + 1 + i = omega arith in subst (λ j. slice_get all j ≡ Some y) e (is (suc i) y at)

part_first : (all : List CertLine) (k : ℕ) (x : CertLine) (part : List CertLine) → IsPart all k (x ∷ part) → slice_get all k ≡ Some x
part_first all k x part is = let e : k + 0 ≡ k = omega arith in subst (λ j. slice_get all j ≡ Some x) e (is 0 x refl)

-- whatever has the last clause and the hints of each has all that is reached
reached_least : (all : List CertLine) (others : List ℕ) → AreClosedUnderHints all others → (k : ℕ) (part : List CertLine) → IsPart all k part → k + length part ≡ length all
    → (j : ℕ) → Contains (reached_clauses k part) j → Contains others j
unfolding reached_clauses
reached_least all others closed k [] is long j has =
    let last : length all - 1 ≡ k - 1 = omega (arith, long) in
    elim (Contains-push_cases [] (k - 1) j has) as (λ _. Contains others j) [
      | inl none ↦ absurd (nothing_in j none)
      | inr e ↦ subst (Contains others) (last ∙ e) closed.last
    ]
reached_least all others closed k (x ∷ rest) is long j has =
    by_case (is_listed (reached_clauses (k + 1) rest) k) refl has (λ i. reached_least all others closed (k + 1) rest (part_next all k x rest is) (omega (arith, long)) i)
  where
    by_case : (b : Bool) → is_listed (reached_clauses (k + 1) rest) k ≡ b → Contains (cond b (hints_of x ++ reached_clauses (k + 1) rest) (reached_clauses (k + 1) rest)) j
        → ((i : ℕ) → Contains (reached_clauses (k + 1) rest) i → Contains others i) → Contains others j
    by_case true e now on =
        elim (Contains-append_cases (hints_of x) (reached_clauses (k + 1) rest) j now) as (λ _. Contains others j) [
          | inl own ↦ closed.hints k j x (on k (Contains-from_listed (reached_clauses (k + 1) rest) k e)) (part_first all k x rest is) own
          | inr above ↦ on j above
        ]
    by_case false e now on = on j now

-- Where no line breaks a rule, each hint names an earlier clause.

earlier_hints : (l : Limits) (c : NodeCheck) (clauses : List Clause) (line : ℕ) (x : CertLine) (rest : List CertLine) (given : Given) → clause_given l c clauses line x rest ≡ Ok given → (h : ℕ) → Contains (hints_of x) h → h < length clauses
unfolding clause_given
earlier_hints l c clauses line (Hinted lits hints) rest given e h has =
    let first = chosen_ok (list_all (λ x. is_boolean c.nodes x.1) lits && list_all (λ h. nat_lt h (length clauses)) hints) _ _ given e in
    let both = and_parts (list_all (λ x. is_boolean c.nodes x.1) lits) (list_all (λ h. nat_lt h (length clauses)) hints) first.0 in
    ltb-true h (length clauses) (All-contains (λ i. nat_lt i (length clauses) ≡ true) hints h (AllPass-from_list_all (λ i. nat_lt i (length clauses)) hints both.1) has)
earlier_hints l c clauses line (Assume k) rest given e h has = absurd (nothing_in h has)
earlier_hints l c clauses line (Scheme n s i) rest given e h has = absurd (nothing_in h has)
earlier_hints l c clauses line (Lemma order lits) rest given e h has = absurd (nothing_in h has)
earlier_hints l c clauses line (Combine multiples) rest given e h has = absurd (nothing_in h has)
earlier_hints l c clauses line (Bits known chosen polynomial bits) rest given e h has = absurd (nothing_in h has)
earlier_hints l c clauses line (Chain known variable steps) rest given e h has = absurd (nothing_in h has)
earlier_hints l c clauses line (Step quotient remainder) rest given e h has = absurd (nothing_in h has)
earlier_hints l c clauses line (Split known variable zeros) rest given e h has = absurd (nothing_in h has)
earlier_hints l c clauses line (Values variable count) rest given e h has = absurd (nothing_in h has)
earlier_hints l c clauses line Close rest given e h has = absurd (nothing_in h has)

passed_lines : (front rest : List CertLine) → NoClauses front → clause_lines (front ++ rest) ≡ clause_lines rest
passed_lines [] rest none = refl
passed_lines (x ∷ front) rest none = ap (λ w. cond w (x ∷ clause_lines (front ++ rest)) (clause_lines (front ++ rest))) none.0 ∙ passed_lines front rest none.1

gives_earlier : {l : Limits} {c : NodeCheck} {clauses all : List Clause} {lines : List CertLine} → Gives l c clauses lines all → AreEarlier (length clauses) (clause_lines lines)
gives_earlier nothing = tt
gives_earlier {l = l} {c = c} (next {clauses = clauses} {rest = rest} x given ok more) =
    let ends = taken_by_clause trees_hold_none l c clauses 0 x rest given (ok 0) in
    let (front, parts, none) = ends.1 in
    let same : clause_lines (x ∷ rest) ≡ x ∷ clause_lines given.rest =
    ap (λ w. cond w (x ∷ clause_lines rest) (clause_lines rest)) ends.0 ∙ ap (λ xs. x ∷ xs) (ap clause_lines parts ∙ passed_lines front given.rest none) in
    let longer : length (clauses ++ given.clause ∷ []) ≡ length clauses + 1 = let long = length-append clauses (given.clause ∷ []) in omega arith in
    subst (AreEarlier (length clauses)) (sym same)
    (earlier_hints l c clauses 0 x rest given (ok 0), subst (λ n. AreEarlier n (clause_lines given.rest)) longer (gives_earlier more))

pub least_reached : (l : Limits) (c : NodeCheck) (lines : List CertLine) (line : ℕ) → entry_fault_within l c (UnsatSteps lines) line ≡ None → AreLeastReached (clause_lines lines) (reached_clauses 0 (clause_lines lines))
least_reached l c lines line e =
    let xs = clause_lines lines in
    let found = reached_clauses 0 xs in
    let early : AreEarlier 0 xs = gives_earlier ((refutations_kept l c lines line).0 e).gives in
    let from_zero : (i : ℕ) → 0 + i ≡ i = λ i. omega arith in
    let last : 0 + length xs - 1 ≡ length xs - 1 = omega arith in
    record {
      closed = record {
        last = subst (Contains found) last (last_reached 0 xs);
        hints = λ k h x has at mine. hints_reached 0 xs early k x h at (subst (Contains found) (sym (from_zero k)) has) mine;
      };
      least = λ others closed k has. reached_least xs others closed 0 xs (λ i y at. subst (λ j. slice_get xs j ≡ Some y) (sym (from_zero i)) at) (from_zero (length xs)) k has;
    }
