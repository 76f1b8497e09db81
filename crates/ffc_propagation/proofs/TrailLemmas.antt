-- One more clause that is taken.
use Rattle.std.proofs.Common.{inl, inr, ◌⊎◌, ◌≡◌, ℕ, zero, suc, ◌+◌, ◌<◌, ◌==◌, Bool, true, false, not, cond, ◌||◌, ◌&&◌, List, [], ◌∷◌, ◌++◌, length, take, drop, set, get_or, reverse, filter, count_by, Contains, Option, Some, None, All, slice_get, slice_index_or, refl, sym, ap, ap₂, ◌∙◌, subst, arith, append-nil, append_assoc, replicate, length-set, get_or-set_same, get_or-set_other}
use Rattle.std.specs.List.{list_any, list_all}
use Rattle.std.proofs.lemmas.Bool.{false≢true, true≢false, cases_Bool, cases_eq, cases_lt, and_from, and_right, or_left, or_right, or_cases, eq-eqb, ne_eqb, false_from_ne_true, not-false, not-true}
use Rattle.std.proofs.lemmas.List.{reverse-append, length_push, get_or_push, get_or_append_left, take-append-le, take-append-drop, take_all, drop_more, get_or_past, get_or-replicate, length-replicate}
use Rattle.std.proofs.lemmas.List.Elements.{filter_agree, filter-append, All-contains, All-more, All-weaker}
use Rattle.std.proofs.lemmas.List.Folds.{list_any-append}
use Rattle.std.proofs.lemmas.List.Sums.{sum_by-set, sum_by-cons}
use Rattle.std.proofs.lemmas.Option.{none-some, same_Some}
use Rattle.ffc_clause.specs.Clauses.{Literal, Clause, plus, minus, negated, same_truth, same_literal, is_among}
use Rattle.ffc_clause.specs.Hints.{open_literals, only_literal}
use Rattle.ffc_clause.proofs.HintLemmas.{same_literal-true}
use Rattle.ffc_bounds.specs.Forced.{check_clauses, IsForced}
use Rattle.ffc_bounds.proofs.ForcedLemmas.{same_literal-self, all_from, among-from_Contains, Contains-from_among, is_out, forced_step}
use Rattle.ffc_refutation.specs.declared.reason.Reason.{Reason}
use Rattle.ffc_refutation.specs.Forcing.{reason_clause, Forces}
use Rattle.ffc_refutation.specs.Forcing.Forces.{nothing, next}
use Rattle.ffc_rules.specs.Entries.{NodeCheck}
use Rattle.ffc_propagation.specs.Forcing.{IsGiven, IsForcing, IsRefuting, AreForced}
use Rattle.ffc_propagation.specs.Trails.{is_mark_of, is_marked, mark_of, is_true_at, is_false_at, is_open_at, HasOneOpen, IsTrail, IsGrown, IsEnded, is_satisfied, IsTaken, AreTaken}
use Rattle.ffc_propagation.specs.declared.trail.Trail.{Trail}
use Rattle.ffc_propagation.proofs.RowLemmas.{among_push}

or_turned : (a b : Bool) → (a || b) ≡ (b || a)
or_turned true true = refl
or_turned true false = refl
or_turned false true = refl
or_turned false false = refl

or_false : (b : Bool) → (b || false) ≡ b
or_false true = refl
or_false false = refl

pub among_reverse : (ls : List Literal) (l : Literal) → is_among (reverse ls) l ≡ is_among ls l
among_reverse [] l = refl
among_reverse (x ∷ xs) l =
    ap (λ ys. is_among ys l) (reverse-append (x ∷ []) xs) ∙ among_push (reverse xs) x l
    ∙ ap (λ b. b || same_literal l x) (among_reverse xs l) ∙ or_turned (is_among xs l) (same_literal l x)

-- one more reason, at the end
Forces-push : {c : NodeCheck} {start forced : List Literal} {reasons : List Reason} → Forces c start reasons forced → (x : Reason) (clause : Clause) (l : Literal) → reason_clause c x ≡ Some clause → only_literal (open_literals forced clause) ≡ Some l
    → Forces c start (reasons ++ x ∷ []) (l ∷ forced)
Forces-push nothing x clause l given one = next x clause l given one nothing
Forces-push (next y d m e f more) x clause l given one = next y d m e f (Forces-push more x clause l given one)

-- ---- first elements

pub first_passing : {X : Type 0} (p : X → Bool) (xs : List X) (i : ℕ) (d : X) → i < length xs → filter p (take i xs) ≡ [] → p (get_or xs i d) ≡ true → slice_get (filter p xs) 0 ≡ Some (get_or xs i d)
first_passing p xs i d inside none on =
    ap (λ ys. slice_get (filter p ys) 0) (sym (take-append-drop i xs) ∙ ap (λ ys. take i xs ++ ys) (drop_more xs i d inside))
    ∙ ap (λ ys. slice_get ys 0) (filter-append p (take i xs) (get_or xs i d ∷ drop (i + 1) xs) ∙ ap (λ ys. ys ++ filter p (get_or xs i d ∷ drop (i + 1) xs)) none)
    ∙ ap (λ b. slice_get (cond b (get_or xs i d ∷ filter p (drop (i + 1) xs)) (filter p (drop (i + 1) xs))) 0) on

no_first : {X : Type 0} (xs : List X) → slice_get xs 0 ≡ None → xs ≡ []
no_first [] e = refl
no_first (x ∷ xs) e = absurd (none-some x (sym e))

first_among : (ls : List Literal) (l : Literal) → slice_get ls 0 ≡ Some l → is_among ls l ≡ true
first_among [] l e = absurd (none-some l e)
first_among (m ∷ ls) l e = or_left (same_literal l m) _ (ap (same_literal l) (same_Some m l e) ∙ same_literal-self l)

only_of : (ls : List Literal) → ((l m : Literal) → is_among ls l ≡ true → is_among ls m ≡ true → same_literal m l ≡ true) → (l : Literal) → slice_get ls 0 ≡ Some l → only_literal ls ≡ Some l
only_of [] one l e = absurd (none-some l e)
only_of (m ∷ ls) one l e =
    let all : list_all (same_literal m) ls ≡ true = all_from (same_literal m) ls (λ k has. one k m (or_right (same_literal k m) _ (among-from_Contains ls k has)) (or_left (same_literal m m) _ (same_literal-self m))) in
    ap (λ b. cond b (Some m) None) all ∙ e

pub filtered : (p : Literal → Bool) (ls : List Literal) (l : Literal) → is_among (filter p ls) l ≡ true → (is_among ls l ≡ true) × (p l ≡ true)
filtered p [] l has = absurd (false≢true has)
filtered p (m ∷ ls) l has = by_test (p m) refl (filtered p ls l) has
  where
    by_test : (b : Bool) → p m ≡ b → (is_among (filter p ls) l ≡ true → (is_among ls l ≡ true) × (p l ≡ true)) → is_among (cond b (m ∷ filter p ls) (filter p ls)) l ≡ true → (is_among (m ∷ ls) l ≡ true) × (p l ≡ true)
    by_test true on later is = elim (or_cases (same_literal l m) (is_among (filter p ls) l) is) as (λ _. (is_among (m ∷ ls) l ≡ true) × (p l ≡ true)) [
      | inl here ↦ (or_left (same_literal l m) _ here, ap p (same_literal-true l m here) ∙ on)
      | inr more ↦ let r = later more in (or_right (same_literal l m) _ r.0, r.1)
    ]
    by_test false off later is = let r = later is in (or_right (same_literal l m) _ r.0, r.1)

passing_among : (p : Literal → Bool) (ls : List Literal) (l : Literal) → is_among ls l ≡ true → p l ≡ true → is_among (filter p ls) l ≡ true
passing_among p [] l has on = absurd (false≢true has)
passing_among p (m ∷ ls) l has on = by_test (p m) refl (λ later. passing_among p ls l later on) (or_cases (same_literal l m) (is_among ls l) has)
  where
    by_test : (b : Bool) → p m ≡ b → (is_among ls l ≡ true → is_among (filter p ls) l ≡ true) → (same_literal l m ≡ true) ⊎ (is_among ls l ≡ true) → is_among (cond b (m ∷ filter p ls) (filter p ls)) l ≡ true
    by_test true e rest (inl here) = or_left (same_literal l m) _ here
    by_test true e rest (inr later) = or_right (same_literal l m) _ (rest later)
    by_test false e rest (inl here) = absurd (false≢true (sym e ∙ ap p (sym (same_literal-true l m here)) ∙ on))
    by_test false e rest (inr later) = rest later

pub any_at : (p : Literal → Bool) (ls : List Literal) (l : Literal) → is_among ls l ≡ true → p l ≡ true → list_any p ls ≡ true
any_at p [] l has on = absurd (false≢true has)
any_at p (m ∷ ls) l has on = elim (or_cases (same_literal l m) (is_among ls l) has) as (λ _. list_any p (m ∷ ls) ≡ true) [
  | inl here ↦ or_left (p m) _ (ap p (sym (same_literal-true l m here)) ∙ on)
  | inr later ↦ or_right (p m) _ (any_at p ls l later on)
]

-- ---- marks

same_not_either : (a b : Bool) → same_truth a b ≡ false → same_truth (not a) b ≡ false → ⊥
same_not_either true true e f = true≢false e
same_not_either true false e f = true≢false f
same_not_either false true e f = true≢false f
same_not_either false false e f = true≢false e

unmarked : (b : Bool) (o : Option Bool) → is_mark_of b o ≡ false → is_mark_of (not b) o ≡ false → o ≡ None
unmarked b None e f = refl
unmarked b (Some m) e f = absurd (same_not_either b m e f)

module _ (old : Trail) (s : IsTrail old) (clause : Clause) (one : HasOneOpen old.marks.items clause) where
  abbrev opens : List Literal
  opens = filter (is_open_at old.marks.items) clause

  opens_are : opens ≡ open_literals (reverse old.literals.items) clause
  opens_are = filter_agree (is_open_at old.marks.items) (λ l. not (is_among (reverse old.literals.items) (negated l))) (λ l. ap not (s.marked (negated l) ∙ sym (among_reverse old.literals.items (negated l)))) clause

  -- no literal is open
  module _ (new : Trail) (reason : Reason) (none : slice_get opens 0 ≡ None) (same_marks : new.marks.items ≡ old.marks.items) (same_literals : new.literals.items ≡ old.literals.items) (more_reasons : new.reasons.items ≡ old.reasons.items ++ reason ∷ []) where
    pub taken_ended : IsEnded old new
    taken_ended = record {
      marked = λ l. ap (λ ms. is_true_at ms l) same_marks ∙ s.marked l ∙ sym (ap (λ ls. is_among ls l) same_literals);
      few = ap length same_literals ∙ s.few ∙ sym (ap (count_by is_marked) same_marks);
      long = ap length same_marks;
      reasons = ap length more_reasons ∙ length_push old.reasons.items reason ∙ ap (λ n. n + 1) (s.reasons ∙ sym (ap length same_literals));
    }

    pub taken_refuting : (c : NodeCheck) → IsGiven c reason clause → IsForcing c old → IsRefuting c new
    taken_refuting c g f = record {
      conflict = record {
        before = old.reasons.items;
        last = reason;
        parts = more_reasons;
        forced = reverse old.literals.items;
        forces = f.forces;
        clause = clause;
        given = g.given;
        false_of = sym opens_are ∙ no_first opens none;
      };
      sound = λ l has. f.sound l (sym (ap (λ ls. is_among ls l) same_literals) ∙ has);
    }

  module _ (l : Literal) (first : slice_get opens 0 ≡ Some l) where
    in_clause : (is_among clause l ≡ true) × (is_open_at old.marks.items l ≡ true)
    in_clause = filtered (is_open_at old.marks.items) clause l (first_among opens l first)

    -- a literal that was forced before
    pub taken_again : is_true_at old.marks.items l ≡ true → IsTaken clause old old
    taken_again is = record {
      grown = record { trail = s; long = refl; more = []; grown = sym (append-nil old.literals.items) };
      satisfied = any_at (is_among old.literals.items) clause l in_clause.0 (sym (s.marked l) ∙ is);
    }

    module _ (new : Trail) (reason : Reason) (inside : l.1 < length old.marks.items) (off : is_true_at old.marks.items l ≡ false)
        (more_marks : new.marks.items ≡ set old.marks.items l.1 (Some l.0)) (more_literals : new.literals.items ≡ old.literals.items ++ l ∷ []) (more_reasons : new.reasons.items ≡ old.reasons.items ++ reason ∷ []) where
      no_mark : mark_of old.marks.items l.1 ≡ None
      no_mark = unmarked l.0 (mark_of old.marks.items l.1) off (not-true (is_false_at old.marks.items l) in_clause.1)

      among_more : (m : Literal) → is_among new.literals.items m ≡ (is_among old.literals.items m || same_literal m l)
      among_more m = ap (λ ls. is_among ls m) more_literals ∙ among_push old.literals.items l m

      marked_here : (m : Literal) → m.1 ≡ l.1 → is_true_at (set old.marks.items l.1 (Some l.0)) m ≡ (is_among old.literals.items m || same_literal m l)
      marked_here m e =
          ap (λ j. is_mark_of m.0 (mark_of (set old.marks.items l.1 (Some l.0)) j)) e ∙ ap (is_mark_of m.0) (get_or-set_same old.marks.items l.1 (Some l.0) None inside)
          ∙ sym (ap (λ b. b || same_literal m l) (sym (s.marked m) ∙ ap (λ j. is_mark_of m.0 (mark_of old.marks.items j)) e ∙ ap (is_mark_of m.0) no_mark)
          ∙ ap (λ b. same_truth m.0 l.0 && b) (eq-eqb m.1 l.1 e) ∙ and_true (same_truth m.0 l.0))
        where
          and_true : (b : Bool) → (b && true) ≡ b
          and_true true = refl
          and_true false = refl

      marked_other : (m : Literal) → (m.1 ≡ l.1 → ⊥) → is_true_at (set old.marks.items l.1 (Some l.0)) m ≡ (is_among old.literals.items m || same_literal m l)
      marked_other m other =
          ap (is_mark_of m.0) (get_or-set_other old.marks.items l.1 m.1 (Some l.0) None other) ∙ s.marked m
          ∙ sym (ap (λ b. is_among old.literals.items m || b) (and_right (same_truth m.0 l.0) (m.1 == l.1) (ne_eqb m.1 l.1 other)) ∙ or_false (is_among old.literals.items m))

      new_here : (i : ℕ) → i < length (old.literals.items ++ l ∷ []) → is_among (take i (old.literals.items ++ l ∷ [])) (slice_index_or (old.literals.items ++ l ∷ []) i (minus 0)) ≡ false
      new_here i within =
          let xs = old.literals.items in
          let long = length_push xs l in
          elim (cases_lt i (length xs)) as (λ _. is_among (take i (xs ++ l ∷ [])) (slice_index_or (xs ++ l ∷ []) i (minus 0)) ≡ false) [
            | inl less ↦ ap₂ is_among (take-append-le i xs (l ∷ []) (omega arith)) (get_or_append_left xs (l ∷ []) (minus 0) i less) ∙ s.new i less
            | inr past ↦
                let e : length xs ≡ i = omega arith in
                ap₂ is_among (take-append-le i xs (l ∷ []) (omega arith) ∙ take_all i xs (omega arith)) (get_or_push xs l (minus 0) i e) ∙ sym (s.marked l) ∙ off
          ]

      pub taken_more : IsTaken clause old new
      taken_more = record {
        grown = record {
          trail = record {
            marked = λ m.
                ap (λ ms. is_true_at ms m) more_marks
                ∙ elim (cases_eq m.1 l.1) as (λ _. is_true_at (set old.marks.items l.1 (Some l.0)) m ≡ (is_among old.literals.items m || same_literal m l)) [
                  | inl same ↦ marked_here m same
                  | inr other ↦ marked_other m other
                ]
                ∙ sym (among_more m);
            new = λ i. subst (λ ls. i < length ls → is_among (take i ls) (slice_index_or ls i (minus 0)) ≡ false) (sym more_literals) (new_here i);
            few =
                (let sum = sum_by-set (λ o. cond (is_marked o) 1 0) old.marks.items l.1 (Some l.0) None inside in
                let none : cond (is_marked (mark_of old.marks.items l.1)) 1 0 ≡ 0 = ap (λ (o : Option Bool). let n : ℕ = cond (is_marked o) 1 0 in n) no_mark in
                let count : count_by is_marked new.marks.items ≡ count_by is_marked (set old.marks.items l.1 (Some l.0)) = ap (count_by is_marked) more_marks in
                let long = ap length more_literals ∙ length_push old.literals.items l in
                omega (arith, sum, none, count, long, s.few));
            reasons = ap length more_reasons ∙ length_push old.reasons.items reason ∙ ap (λ n. n + 1) s.reasons ∙ sym (ap length more_literals ∙ length_push old.literals.items l);
          };
          long = ap length more_marks ∙ length-set old.marks.items l.1 (Some l.0);
          more = l ∷ [];
          grown = more_literals;
        };
        satisfied = any_at (is_among new.literals.items) clause l in_clause.0 (among_more l ∙ or_right (is_among old.literals.items l) _ (same_literal-self l));
      }

      -- each other literal of the clause is false
      others_out : list_all (is_out old.literals.items l) clause ≡ true
      others_out = all_from (is_out old.literals.items l) clause other_out
        where
          other_out : (m : Literal) → Contains clause m → is_out old.literals.items l m ≡ true
          other_out m has = elim (cases_Bool (is_open_at old.marks.items m)) as (λ _. is_out old.literals.items l m ≡ true) [
            | inl on ↦ or_left (same_literal m l) _ (one l m (first_among opens l first) (passing_among (is_open_at old.marks.items) clause m (among-from_Contains clause m has) on))
            | inr shut ↦ or_right (same_literal m l) _ (sym (s.marked (negated m)) ∙ not-false (is_false_at old.marks.items m) shut)
          ]

      pub taken_forcing : (c : NodeCheck) → IsGiven c reason clause → IsForcing c old → IsForcing c new
      taken_forcing c g f = record {
        forces =
            subst (λ rs. Forces c [] rs (reverse new.literals.items)) (sym more_reasons)
            (subst (λ ls. Forces c [] (old.reasons.items ++ reason ∷ []) ls) (sym (ap reverse more_literals ∙ reverse-append old.literals.items (l ∷ [])))
            (Forces-push f.forces reason clause l g.given (ap only_literal (sym opens_are) ∙ only_of opens one l first)));
        sound = λ m has.
            elim (or_cases (is_among old.literals.items m) (same_literal m l) (sym (among_more m) ∙ has)) as (λ _. IsForced c m) [
              | inl before ↦ f.sound m before
              | inr same ↦ subst (IsForced c) (sym (same_literal-true m l same)) (forced_step (check_clauses c) old.literals.items f.sound clause g.listed l (Contains-from_among clause l in_clause.0) others_out)
            ];
      }

-- ---- trails that grow

pub grown_self : (t : Trail) → IsTrail t → IsGrown t t
grown_self t s = record { trail = s; long = refl; more = []; grown = sym (append-nil t.literals.items) }

pub grown_then : (a b c : Trail) → IsGrown a b → IsGrown b c → IsGrown a c
grown_then a b c one two = record {
  trail = two.trail;
  long = two.long ∙ one.long;
  more = one.more ++ two.more;
  grown = two.grown ∙ ap (λ ls. ls ++ two.more) one.grown ∙ append_assoc a.literals.items one.more two.more;
}

pub ended_then : (a b c : Trail) → IsGrown a b → IsEnded b c → IsEnded a c
ended_then a b c one two = record { marked = two.marked; few = two.few; long = two.long ∙ one.long; reasons = two.reasons }

pub among_grown : (a b : Trail) (l : Literal) → IsGrown a b → is_among a.literals.items l ≡ true → is_among b.literals.items l ≡ true
among_grown a b l g has = ap (λ ls. is_among ls l) g.grown ∙ list_any-append (same_literal l) a.literals.items g.more ∙ or_left (is_among a.literals.items l) _ has

pub satisfied_grown : (a b : Trail) (clause : Clause) → IsGrown a b → is_satisfied a clause ≡ true → is_satisfied b clause ≡ true
satisfied_grown a b [] g is = is
satisfied_grown a b (l ∷ clause) g is = elim (or_cases (is_among a.literals.items l) (is_satisfied a clause) is) as (λ _. is_satisfied b (l ∷ clause) ≡ true) [
  | inl here ↦ or_left (is_among b.literals.items l) _ (among_grown a b l g here)
  | inr later ↦ or_right (is_among b.literals.items l) _ (satisfied_grown a b clause g later)
]

-- nothing is marked
unmarked_at : (n id : ℕ) → mark_of (replicate n None) id ≡ None
unmarked_at n id =
    elim (cases_lt id n) as (λ _. mark_of (replicate n None) id ≡ None) [
      | inl inside ↦ get_or-replicate n id None None inside
      | inr past ↦ get_or_past (replicate n None) id None (let long = length-replicate n (let none : Option Bool = None in none) in omega arith)
    ]

none_marked : (n : ℕ) → count_by is_marked (replicate n None) ≡ 0
none_marked zero = refl
none_marked (suc n) = let sum = sum_by-cons (λ o. cond (is_marked o) 1 0) None (replicate n None) in let rest = none_marked n in omega (arith, sum, rest)

pub trail_none : (t : Trail) (n : ℕ) → t.marks.items ≡ replicate n None → t.literals.items ≡ [] → t.reasons.items ≡ [] → IsTrail t
trail_none t n marks literals reasons = record {
  marked = λ l. ap (λ ms. is_true_at ms l) marks ∙ ap (is_mark_of l.0) (unmarked_at n l.1) ∙ sym (ap (λ ls. is_among ls l) literals);
  new = λ i inside. let none = ap length literals in absurd (omega arith);
  few = ap length literals ∙ sym (ap (count_by is_marked) marks ∙ none_marked n);
  reasons = ap length reasons ∙ sym (ap length literals);
}

pub forcing_none : (t : Trail) (c : NodeCheck) → t.literals.items ≡ [] → t.reasons.items ≡ [] → IsForcing c t
forcing_none t c literals reasons = record {
  forces = subst (λ rs. Forces c [] rs (reverse t.literals.items)) (sym reasons) (subst (λ ls. Forces c [] [] (reverse ls)) (sym literals) nothing);
  sound = λ l has. absurd (false≢true (ap (λ ls. is_among ls l) (sym literals) ∙ has));
}

-- ---- one assertion

-- a clause of one literal has no two
pub one_literal : (marks : List (Option Bool)) (x : Literal) → HasOneOpen marks (x ∷ [])
one_literal marks x l m has other =
    let a = (filtered (is_open_at marks) (x ∷ []) l has).0 in
    let b = (filtered (is_open_at marks) (x ∷ []) m other).0 in
    let one : same_literal l x ≡ true = sym (or_false (same_literal l x)) ∙ a in
    let two : same_literal m x ≡ true = sym (or_false (same_literal m x)) ∙ b in
    ap (same_literal m) (same_literal-true l x one) ∙ two

pub satisfied_one : (t : Trail) (x : Literal) → is_satisfied t (x ∷ []) ≡ true → is_among t.literals.items x ≡ true
satisfied_one t x is = sym (or_false (is_among t.literals.items x)) ∙ is

-- the first open literal is one of the clause
pub open_within : (marks : List (Option Bool)) (clause : Clause) (l : Literal) (n : ℕ) → All (λ m. m.1 < n) clause → slice_get (filter (is_open_at marks) clause) 0 ≡ Some l → l.1 < n
open_within marks clause l n within first =
    All-contains (λ m. m.1 < n) clause l within (Contains-from_among clause l (filtered (is_open_at marks) clause l (first_among (filter (is_open_at marks) clause) l first)).0)

-- one more assertion
pub active_more : (ids : List ℕ) (i : ℕ) (old now new : Trail) → i < length ids → AreTaken (take i ids) old now → IsTaken (plus (get_or ids i 0) ∷ []) now new → AreTaken (take (i + 1) ids) old new
active_more ids i old now new inside before is = record {
  grown = grown_then old now new before.grown is.grown;
  all =
      All-more (λ id. is_among new.literals.items (plus id) ≡ true) ids i 0 inside
      (All-weaker (λ id. is_among now.literals.items (plus id) ≡ true) (λ id. is_among new.literals.items (plus id) ≡ true) (λ id has. among_grown now new (plus id) is.grown has) (take i ids) before.all)
      (satisfied_one new (plus (get_or ids i 0)) is.satisfied);
}
