-- A clause that follows by hints is true where the clauses are.
use Rattle.std.proofs.Common.{inl, inr, ◌≡◌, ℕ, Bool, true, false, not, cond, ◌||◌, List, [], ◌∷◌, map, filter, Option, Some, None, refl, sym, ap, ◌∙◌, slice_get, option_map, option_and_then}
use Rattle.std.specs.List.{AllByRecursion, list_any, list_all}
use Rattle.std.proofs.lemmas.Bool.{false≢true, eqb-true, and_parts, cases_Bool, false_from_ne_true, true_from_ne_false, and_from, or_parts}
use Rattle.std.proofs.lemmas.Option.{cond_some, none-some, option_and_then_some, same_Some}
use Rattle.ffc_clause.specs.Clauses.{Literal, Clause, negated, same_truth, same_literal, is_among, literal_holds, clause_holds}
use Rattle.ffc_clause.specs.Hints.{open_literals, only_literal, opened, is_closed, is_contradiction, follows}

-- one of a literal and its negation is true
same_not : (a b : Bool) → same_truth (not a) b ≡ not (same_truth a b)
same_not true true = refl
same_not true false = refl
same_not false true = refl
same_not false false = refl

pub negated_holds : (t : ℕ → Bool) (l : Literal) → literal_holds t (negated l) ≡ not (literal_holds t l)
negated_holds t l = same_not l.0 (t l.1)

same_truth-true : (a b : Bool) → same_truth a b ≡ true → a ≡ b
same_truth-true true true e = refl
same_truth-true true false e = absurd (false≢true e)
same_truth-true false true e = absurd (false≢true e)
same_truth-true false false e = refl

pub same_literal-true : (a b : Literal) → same_literal a b ≡ true → a ≡ b
same_literal-true a b e =
    let parts = and_parts (same_truth a.0 b.0) _ e in
    λ i. (same_truth-true a.0 b.0 parts.0 i, eqb-true a.1 b.1 parts.1 i)

-- a literal among true ones is true
among_true : (t : ℕ → Bool) (ls : List Literal) (l : Literal) → list_all (literal_holds t) ls ≡ true → is_among ls l ≡ true → literal_holds t l ≡ true
among_true t [] l all is = absurd (false≢true is)
among_true t (m ∷ ls) l all is =
    let parts = and_parts (literal_holds t m) (list_all (literal_holds t) ls) all in
    elim (cases_Bool (same_literal l m)) as (λ _. literal_holds t l ≡ true) [
      | inl same ↦ ap (literal_holds t) (same_literal-true l m same) ∙ parts.0
      | inr other ↦ among_true t ls l parts.1 (sym (ap (λ b. b || is_among ls l) other) ∙ is)
    ]

-- a filter that keeps each true literal keeps that some literal is true
some_kept : (t : ℕ → Bool) (test : Literal → Bool) (ls : List Literal) → ((l : Literal) → literal_holds t l ≡ true → test l ≡ true) → list_any (literal_holds t) ls ≡ true → list_any (literal_holds t) (filter test ls) ≡ true
some_kept t test [] keeps any = any
some_kept t test (l ∷ ls) keeps any =
    elim (cases_Bool (literal_holds t l)) as (λ _. list_any (literal_holds t) (cond (test l) (l ∷ filter test ls) (filter test ls)) ≡ true) [
      | inl holds ↦
          ap (λ b. list_any (literal_holds t) (cond b (l ∷ filter test ls) (filter test ls))) (keeps l holds)
          ∙ ap (λ b. b || list_any (literal_holds t) (filter test ls)) holds
      | inr fails ↦
          let rest : list_any (literal_holds t) (filter test ls) ≡ true = some_kept t test ls keeps (sym (ap (λ b. b || list_any (literal_holds t) ls) fails) ∙ any) in
          elim (test l) as (λ b. list_any (literal_holds t) (cond b (l ∷ filter test ls) (filter test ls)) ≡ true) [
            | true ↦ ap (λ b. b || list_any (literal_holds t) (filter test ls)) fails ∙ rest
            | false ↦ rest
          ]
    ]

-- what is true is open, where all that is assumed is true
some_open : (t : ℕ → Bool) (assumed : List Literal) (clause : Clause) → list_all (literal_holds t) assumed ≡ true → clause_holds t clause ≡ true → list_any (literal_holds t) (open_literals assumed clause) ≡ true
some_open t assumed clause all any =
    some_kept t (λ l. not (is_among assumed (negated l))) clause (λ l holds.
    ap not (false_from_ne_true (is_among assumed (negated l)) (λ is.
    false≢true (ap not (sym holds) ∙ sym (negated_holds t l) ∙ among_true t assumed (negated l) all is)))
    ) any

-- where one of equal literals is true, the first is
first_true : (t : ℕ → Bool) (l : Literal) (ls : List Literal) → list_all (same_literal l) ls ≡ true → list_any (literal_holds t) ls ≡ true → literal_holds t l ≡ true
first_true t l [] same any = absurd (false≢true any)
first_true t l (m ∷ ls) same any =
    let parts = and_parts (same_literal l m) (list_all (same_literal l) ls) same in
    elim (cases_Bool (literal_holds t m)) as (λ _. literal_holds t l ≡ true) [
      | inl holds ↦ ap (literal_holds t) (same_literal-true l m parts.0) ∙ holds
      | inr fails ↦ first_true t l ls parts.1 (sym (ap (λ b. b || list_any (literal_holds t) ls) fails) ∙ any)
    ]

only_true : (t : ℕ → Bool) (l : Literal) (ls : List Literal) → only_literal ls ≡ Some l → list_any (literal_holds t) ls ≡ true → literal_holds t l ≡ true
only_true t l [] e any = absurd (false≢true any)
only_true t l (m ∷ ls) e any =
    let found = cond_some (list_all (same_literal m) ls) m l e in
    elim (cases_Bool (literal_holds t m)) as (λ _. literal_holds t l ≡ true) [
      | inl holds ↦ ap (literal_holds t) (sym found.1) ∙ holds
      | inr fails ↦ ap (literal_holds t) (sym found.1) ∙ first_true t m ls found.0 (sym (ap (λ b. b || list_any (literal_holds t) ls) fails) ∙ any)
    ]

-- the clause of a hint is true
abbrev pub IsHintTrue : (ℕ → Bool) → List Clause → ℕ → Type 0
IsHintTrue t clauses hint = (hinted : Clause) → slice_get clauses hint ≡ Some hinted → clause_holds t hinted ≡ true

-- some literal that a hint leaves open is true
opened_true : (t : ℕ → Bool) (clauses : List Clause) (assumed : List Literal) (h : ℕ) (left : List Literal) → IsHintTrue t clauses h → list_all (literal_holds t) assumed ≡ true → opened clauses assumed h ≡ Some left → list_any (literal_holds t) left ≡ true
opened_true t clauses assumed h left all holds e = by_clause (slice_get clauses h) refl e
  where
    by_clause : (o : Option Clause) → slice_get clauses h ≡ o → option_map (open_literals assumed) o ≡ Some left → list_any (literal_holds t) left ≡ true
    by_clause None at is = absurd (none-some left is)
    by_clause (Some c) at is =
        ap (list_any (literal_holds t)) (sym (same_Some (open_literals assumed c) left is)) ∙ some_open t assumed c holds (all c at)

closed_is_empty : (o : Option (List Literal)) → is_closed o ≡ true → o ≡ Some []
closed_is_empty None e = absurd (false≢true e)
closed_is_empty (Some []) e = refl
closed_is_empty (Some (l ∷ ls)) e = absurd (false≢true e)

no_contradiction : (t : ℕ → Bool) (clauses : List Clause) (assumed : List Literal) (hints : List ℕ) → AllByRecursion (IsHintTrue t clauses) hints → list_all (literal_holds t) assumed ≡ true → is_contradiction clauses assumed hints ≡ true → ⊥
unfolding is_contradiction
no_contradiction t clauses assumed [] all holds e = false≢true e
no_contradiction t clauses assumed (h ∷ []) all holds e =
    false≢true (opened_true t clauses assumed h [] all.0 holds (closed_is_empty (opened clauses assumed h) e))
no_contradiction t clauses assumed (h ∷ g ∷ hints) all holds e =
    by_left (option_and_then only_literal (opened clauses assumed h)) refl e (λ l. no_contradiction t clauses (l ∷ assumed) (g ∷ hints) all.1)
  where
    by_left : (o : Option Literal) → option_and_then only_literal (opened clauses assumed h) ≡ o → elim o [ None ↦ false | Some l ↦ is_contradiction clauses (l ∷ assumed) (g ∷ hints) ] ≡ true → ((l : Literal) → list_all (literal_holds t) (l ∷ assumed) ≡ true → is_contradiction clauses (l ∷ assumed) (g ∷ hints) ≡ true → ⊥) → ⊥
    by_left None is on next = false≢true on
    by_left (Some l) is on next =
        option_and_then_some only_literal (opened clauses assumed h) l is (λ left at only.
        next l (and_from (literal_holds t l) (list_all (literal_holds t) assumed) (only_true t l left only (opened_true t clauses assumed h left all.0 holds at)) holds) on)

-- where a clause is false, the negations of its literals are true
negations_true : (t : ℕ → Bool) (clause : Clause) → clause_holds t clause ≡ false → list_all (literal_holds t) (map negated clause) ≡ true
negations_true t [] e = refl
negations_true t (l ∷ clause) e =
    let parts = or_parts (literal_holds t l) (clause_holds t clause) e in
    and_from _ _ (negated_holds t l ∙ ap not parts.0) (negations_true t clause parts.1)

pub follows_true : (t : ℕ → Bool) (clauses : List Clause) (clause : Clause) (hints : List ℕ) → AllByRecursion (IsHintTrue t clauses) hints → follows clauses clause hints ≡ true → clause_holds t clause ≡ true
follows_true t clauses clause hints all e =
    true_from_ne_false (clause_holds t clause) (λ off. no_contradiction t clauses (map negated clause) hints all (negations_true t clause off) e)
