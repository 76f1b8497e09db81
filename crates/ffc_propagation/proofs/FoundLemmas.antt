-- What is known of a trail when all of its literals were looked at, or a clause is false.
use Rattle.std.proofs.Common.{inl, inr, ◌⊎◌, ◌≡◌, ℕ, zero, suc, ◌+◌, ◌<◌, ◌≤◌, Bool, true, false, not, cond, ◌||◌, List, [], ◌∷◌, ◌++◌, length, map, take, get_or, filter, count_by, All, Contains, Option, Some, None, slice_index_or, refl, sym, ap, ap₂, ◌∙◌, subst, arith}
use Rattle.std.specs.Prelude.{flat_map}
use Rattle.std.specs.List.{list_all, list_any, range_with_len}
use Rattle.std.proofs.lemmas.Bool.{false≢true, cases_Bool, and_from, or_left, or_right, or_cases, false_from_ne_true}
use Rattle.std.proofs.lemmas.List.{take_all, get_or_default}
use Rattle.std.proofs.lemmas.List.Elements.{All-contains, Contains-append_right}
use Rattle.std.proofs.lemmas.List.Sums.{sum_by-cons, count_by-le-length}
use Rattle.ffc_term.proofs.ListLemmas.{Contains-from_filter}
use Rattle.ffc_clause.specs.Clauses.{Literal, Clause, plus, negated, same_truth, same_literal, is_among}
use Rattle.ffc_clause.proofs.HintLemmas.{same_literal-true}
use Rattle.ffc_rules.specs.Cones.{is_listed, reached, is_equality_among, cone}
use Rattle.ffc_rules.specs.Entries.{NodeCheck}
use Rattle.ffc_rules.specs.Laws.{IsValid}
use Rattle.ffc_rules.proofs.ConeLemmas.{Contains-from_listed}
use Rattle.ffc_encode.specs.Clauses.{node_clauses}
use Rattle.ffc_bounds.specs.Forced.{scheme_clauses_at, check_clauses, IsForced, IsRefutedByForcing}
use Rattle.ffc_bounds.proofs.ForcedLemmas.{all_at, all_from, among-from_Contains, Contains-from_among, is_out, is_closed_at, is_closed, closed_has}
use Rattle.ffc_refutation.specs.declared.reason.Reason.{Reason}
use Rattle.ffc_propagation.specs.Answers.{AreAllForced, AreConflicting, IsAnswer, IsFound}
use Rattle.ffc_propagation.specs.Forcing.{AreForced, IsForcing, IsRefuting}
use Rattle.ffc_propagation.specs.Rows.{clause_at}
use Rattle.ffc_propagation.specs.Settling.{clauses_of, IsSettledAt, IsSettled}
use Rattle.ffc_propagation.specs.Trails.{is_mark_of, is_marked, mark_of, is_true_at, is_satisfied, IsTrail, IsEnded}
use Rattle.ffc_propagation.specs.declared.occurrences.Occurrences.{Occurrences}
use Rattle.ffc_propagation.specs.declared.trail.Trail.{Trail}
use Rattle.ffc_propagation.proofs.CountLemmas.{count_two}
use Rattle.ffc_propagation.proofs.GivenLemmas.{clauses_are, forced_in_cone, all_append}

not_both : (b : Bool) (o : Option Bool) → is_mark_of b o ≡ true → is_mark_of (not b) o ≡ true → ⊥
not_both b None e f = false≢true e
not_both true (Some true) e f = false≢true f
not_both true (Some false) e f = false≢true e
not_both false (Some true) e f = false≢true e
not_both false (Some false) e f = false≢true f

-- no literal is there with its negation
consistent : (t : Trail) → IsTrail t → (l : Literal) → is_among t.literals.items l ≡ true → is_among t.literals.items (negated l) ≡ false
consistent t s l has = false_from_ne_true _ (λ other. not_both l.0 (mark_of t.marks.items l.1) (s.marked l ∙ has) (s.marked (negated l) ∙ other))

any_found : (p : Literal → Bool) (ls : List Literal) → list_any p ls ≡ true → (m : Literal) × (is_among ls m ≡ true) × (p m ≡ true)
any_found p [] any = absurd (false≢true any)
any_found p (l ∷ ls) any = elim (or_cases (p l) (list_any p ls) any) as (λ _. (m : Literal) × (is_among (l ∷ ls) m ≡ true) × (p m ≡ true)) [
  | inl here ↦ (l, among-from_Contains (l ∷ ls) l (0, omega arith, refl), here)
  | inr later ↦ let r = any_found p ls later in (r.0, or_right (same_literal r.0 l) _ r.1, r.2)
]

-- ---- all that is forced is there

module _ (known : List Literal) (clause : Clause) where
  -- a clause whose literals are known where they are forced
  closed_one : ((l : Literal) → Contains clause l → list_all (is_out known l) clause ≡ true → is_among known l ≡ true) → list_all (is_closed_at known clause) clause ≡ true
  closed_one each = all_from (is_closed_at known clause) clause by_out
    where
      by_out : (l : Literal) → Contains clause l → is_closed_at known clause l ≡ true
      by_out l has = elim (cases_Bool (list_all (is_out known l) clause)) as (λ _. is_closed_at known clause l ≡ true) [
        | inl out ↦ or_right (not (list_all (is_out known l) clause)) _ (each l has out)
        | inr other ↦ or_left (not (list_all (is_out known l) clause)) _ (ap not other)
      ]

module _ (c : NodeCheck) (t : Trail) (o : Occurrences) (s : IsSettled (clauses_of (node_clauses c.nodes (cone c.nodes c.in_force))) (length t.literals.items) t o)
    (active : All (λ id. is_among t.literals.items (plus id) ≡ true) c.in_force) where
  abbrev all_clauses : List Clause
  all_clauses = clauses_of (node_clauses c.nodes (cone c.nodes c.in_force))

  abbrev literals : List Literal
  literals = t.literals.items

  node_closed : (k : ℕ) → k < length all_clauses → (l : Literal) → list_all (is_out literals l) (clause_at all_clauses k) ≡ true → IsSettledAt all_clauses t o k → is_among literals l ≡ true
  node_closed k inside l out (inl is) =
      let found = any_found (is_among literals) (clause_at all_clauses k) is in
      elim (or_cases (same_literal found.0 l) (is_among literals (negated found.0)) (all_at (is_out literals l) (clause_at all_clauses k) found.0 out (Contains-from_among (clause_at all_clauses k) found.0 found.1))) as (λ _. is_among literals l ≡ true) [
        | inl same ↦ sym (ap (is_among literals) (same_literal-true found.0 l same)) ∙ found.2
        | inr against ↦ absurd (false≢true (sym (consistent t s.state.trail found.0 found.2) ∙ against))
      ]
  node_closed k inside l out (inr two) =
      let all : take (length literals) literals ≡ literals = take_all (length literals) literals (omega arith) in
      absurd (count_two (is_among (take (length literals) literals)) (clause_at all_clauses k) (slice_index_or o.counts.items k 0) (s.state.counted k inside) two l (λ m has other.
      elim (or_cases (same_literal m l) (is_among literals (negated m)) (all_at (is_out literals l) (clause_at all_clauses k) m out (Contains-from_among (clause_at all_clauses k) m has))) as (λ _. is_among (take (length literals) literals) (negated m) ≡ true) [
        | inl same ↦ absurd (false≢true (sym other ∙ same))
        | inr is ↦ ap (λ ls. is_among ls (negated m)) all ∙ is
      ]))

  or_false : (b : Bool) → (b || false) ≡ b
  or_false true = refl
  or_false false = refl

  active_closed : (ids : List ℕ) → ((id : ℕ) → Contains ids id → is_among literals (plus id) ≡ true) → list_all (λ clause. list_all (is_closed_at literals clause) clause) (map (λ id. plus id ∷ []) ids) ≡ true
  active_closed [] each = refl
  active_closed (id ∷ ids) each =
      and_from _ _
      (closed_one literals (plus id ∷ []) (λ l has out.
      let same : same_literal l (plus id) ≡ true = sym (or_false (same_literal l (plus id))) ∙ among-from_Contains (plus id ∷ []) l has in
      ap (is_among literals) (same_literal-true l (plus id) same) ∙ each id (0, omega arith, refl)))
      (active_closed ids (λ i has. each i (Contains-append_right (id ∷ []) ids i has)))

  nodes_closed : list_all (λ clause. list_all (is_closed_at literals clause) clause) all_clauses ≡ true
  nodes_closed =
      all_from (λ clause. list_all (is_closed_at literals clause) clause) all_clauses (λ clause (k, inside, is).
      let e : clause_at all_clauses k ≡ clause = get_or_default all_clauses k [] clause inside ∙ is in
      subst (λ d. list_all (is_closed_at literals d) d ≡ true) e
      (closed_one literals (clause_at all_clauses k) (λ l has out. node_closed k inside l out (s.all k inside))))

  all_closed : is_closed literals (check_clauses c) ≡ true
  all_closed =
      all_append (λ clause. list_all (is_closed_at literals clause) clause) (map (λ id. plus id ∷ []) c.in_force) (flat_map (scheme_clauses_at c) (cone c.nodes c.in_force))
      (active_closed c.in_force (λ id has. All-contains (λ i. is_among literals (plus i) ≡ true) c.in_force id active has))
      (subst (λ cs. list_all (λ clause. list_all (is_closed_at literals clause) clause) cs ≡ true) (clauses_are c (cone c.nodes c.in_force)) nodes_closed)

  complete : (l : Literal) → IsForced c l → is_among literals l ≡ true
  complete l is = closed_has (check_clauses c) literals all_closed l is

-- ---- how many literals there are

marks_few : (test : ℕ → Bool) (marks : List (Option Bool)) (k : ℕ) → ((i : ℕ) → is_marked (mark_of marks i) ≡ true → test (k + i) ≡ true) → count_by is_marked marks ≤ length (filter test (range_with_len k (length marks)))
marks_few test [] k each = omega arith
marks_few test (m ∷ marks) k each =
    let rest = marks_few test marks (k + 1) (λ i is. let e : k + suc i ≡ k + 1 + i = omega arith in subst (λ j. test j ≡ true) e (each (suc i) is)) in
    by_mark (is_marked m) refl rest
  where
    value : Bool → ℕ
    value b = cond b 1 0

    by_mark : (b : Bool) → is_marked m ≡ b → count_by is_marked marks ≤ length (filter test (range_with_len (k + 1) (length marks))) → count_by is_marked (m ∷ marks) ≤ length (cond (test k) (k ∷ filter test (range_with_len (k + 1) (length marks))) (filter test (range_with_len (k + 1) (length marks))))
    by_mark true is rest =
        let sum = sum_by-cons (λ o. cond (is_marked o) 1 0) m marks in
        let one : cond (is_marked m) 1 0 ≡ 1 = ap value is in
        let e : k + 0 ≡ k = omega arith in
        let kept : test k ≡ true = subst (λ j. test j ≡ true) e (each 0 is) in
        let long : length (cond (test k) (k ∷ filter test (range_with_len (k + 1) (length marks))) (filter test (range_with_len (k + 1) (length marks)))) ≡ suc (length (filter test (range_with_len (k + 1) (length marks)))) = ap (λ b. length (cond b (k ∷ filter test (range_with_len (k + 1) (length marks))) (filter test (range_with_len (k + 1) (length marks))))) kept in
        omega (arith, sum, one, long, rest)
    by_mark false is rest =
        let sum = sum_by-cons (λ o. cond (is_marked o) 1 0) m marks in
        let none : cond (is_marked m) 1 0 ≡ 0 = ap value is in
        let long = at_least (test k) in
        omega (arith, sum, none, long, rest)
      where
        at_least : (b : Bool) → length (filter test (range_with_len (k + 1) (length marks))) ≤ length (cond b (k ∷ filter test (range_with_len (k + 1) (length marks))) (filter test (range_with_len (k + 1) (length marks))))
        at_least true = omega arith
        at_least false = omega arith

same_self : (b : Bool) → same_truth b b ≡ true
same_self true = refl
same_self false = refl

module _ (c : NodeCheck) (valid : IsValid c) (t : Trail) (long : length t.marks.items ≡ length c.nodes) (marked : (l : Literal) → is_true_at t.marks.items l ≡ is_among t.literals.items l)
    (few : length t.literals.items ≡ count_by is_marked t.marks.items) (sound : AreForced c t) where
  marked_in_cone : (id : ℕ) → is_marked (mark_of t.marks.items id) ≡ true → is_listed (cone c.nodes c.in_force) id ≡ true
  marked_in_cone id is = by_mark (mark_of t.marks.items id) refl is
    where
      by_mark : (o : Option Bool) → mark_of t.marks.items id ≡ o → is_marked o ≡ true → is_listed (cone c.nodes c.in_force) id ≡ true
      by_mark None at on = absurd (false≢true on)
      by_mark (Some b) at on = forced_in_cone c valid (b, id) (sound (b, id) (sym (marked (b, id)) ∙ ap (is_mark_of b) at ∙ same_self b))

  few_literals : length t.literals.items ≤ length (cone c.nodes c.in_force)
  unfolding cone
  few_literals =
      let test = λ (id : ℕ). is_listed (reached c.in_force 0 c.nodes) id || is_equality_among c.nodes (reached c.in_force 0 c.nodes) id in
      let least = marks_few test t.marks.items 0 (λ i is.
      let e : i ≡ 0 + i = omega arith in
      subst (λ j. test j ≡ true) e (Contains-from_filter test (range_with_len 0 (length c.nodes)) i (Contains-from_listed (cone c.nodes c.in_force) i (marked_in_cone i is))).1) in
      let same : length (filter test (range_with_len 0 (length t.marks.items))) ≡ length (filter test (range_with_len 0 (length c.nodes))) = ap (λ n. length (filter test (range_with_len 0 n))) long in
      omega (arith, few, least, same)

  pub found_conflict : length t.reasons.items ≡ length t.literals.items + 1 → IsRefuting c t → IsFound c t true
  found_conflict reasons r = record {
    answer = record { conflict = r.conflict; few = omega (arith, reasons, few, long, count_by-le-length is_marked t.marks.items, valid.table.well_formed.within) };
    few = few_literals;
  }

  pub found_forced : (o : Occurrences) → IsSettled (clauses_of (node_clauses c.nodes (cone c.nodes c.in_force))) (length t.literals.items) t o → All (λ id. is_among t.literals.items (plus id) ≡ true) c.in_force → IsForcing c t → IsFound c t false
  found_forced o s active f = record {
    answer = record {
      forces = f.forces;
      few = omega (arith, s.state.trail.reasons, few, long, count_by-le-length is_marked t.marks.items, valid.table.well_formed.within);
      sound = f.sound;
      complete = complete c t o s active;
      apart = consistent t s.state.trail;
    };
    few = few_literals;
  }

-- where all that is forced is listed, and nothing with its negation, no literal is forced with its negation
pub never_refuted : (budget : ℕ) (c : NodeCheck) (literals : List Literal) (reasons : List Reason) → AreAllForced c literals reasons → IsRefutedByForcing budget c → ⊥
never_refuted budget c ls reasons all r = false≢true (sym (all.apart r.literal (all.complete r.literal r.forced)) ∙ all.complete (negated r.literal) r.denied)
