-- Clauses that stay settled while literals are looked at.
use Rattle.std.proofs.Common.{inl, inr, ◌⊎◌, ◌≡◌, ℕ, zero, suc, ◌+◌, ◌*◌, ◌<◌, ◌≤◌, ◌==◌, nat_lt, Bool, true, false, not, cond, ◌||◌, List, [], ◌∷◌, ◌++◌, length, map, take, drop, get_or, count_by, All, slice_index_or, refl, sym, ap, ap₂, ◌∙◌, subst, arith, length-append}
use Rattle.std.proofs.lemmas.Bool.{false≢true, cases_Bool, cases_lt, cases_eq, ltb-true, ltb-false, or_left, or_cases, eq-eqb, ne_eqb, false_from_ne_true, true_from_ne_false}
use Rattle.std.proofs.lemmas.List.{take_more, take_all, take-append-le, take-append-drop, get_or-map, length-map, length_push, get_or_append_left, get_or_push}
use Rattle.std.proofs.lemmas.List.Elements.{All-weaker}
use Rattle.std.proofs.lemmas.List.Folds.{list_any-append}
use Rattle.std.proofs.lemmas.List.Sums.{sum_by-drop_more}
use Rattle.ffc_clause.specs.Clauses.{Literal, Clause, minus, negated, same_literal, is_among}
use Rattle.ffc_clause.specs.Marks.{place_of}
use Rattle.ffc_encode.specs.declared.clauses.NodeClause.{NodeClause}
use Rattle.ffc_propagation.specs.Counts.{IsCounted}
use Rattle.ffc_propagation.specs.Rows.{row_at, clause_at, AreRows}
use Rattle.ffc_propagation.specs.Settling.{clauses_of, IsOpened, HasState, IsSettling, IsSettledAt, IsSettled}
use Rattle.ffc_propagation.specs.Trails.{IsWithin, is_true_at, is_open_at, HasOneOpen, IsTrail, IsGrown, IsTaken}
use Rattle.ffc_propagation.specs.declared.occurrences.Occurrences.{Occurrences}
use Rattle.ffc_propagation.specs.declared.trail.Trail.{Trail}
use Rattle.ffc_propagation.proofs.CountLemmas.{count_pair, count_known, count_enough}
use Rattle.ffc_propagation.proofs.RowLemmas.{among_push, row_counts, row_within, none_before}
use Rattle.ffc_propagation.proofs.TrailLemmas.{filtered, satisfied_grown}

among_take : (n : ℕ) (ls : List Literal) (l : Literal) → is_among (take n ls) l ≡ true → is_among ls l ≡ true
among_take n ls l has = ap (λ xs. is_among xs l) (sym (take-append-drop n ls)) ∙ list_any-append (same_literal l) (take n ls) (drop n ls) ∙ or_left (is_among (take n ls) l) _ has

-- the clause of a number
pub clause_is : (xs : List NodeClause) (i : ℕ) (x : NodeClause) → i < length xs → x ≡ get_or xs i x → clause_at (clauses_of xs) i ≡ x.lits
clause_is xs i x inside is = get_or-map (λ c. c.lits) xs i x [] inside ∙ ap (λ c. c.lits) (sym is)

-- before any literal is looked at
pub opened_settling : (clauses : List Clause) (nodes : ℕ) (t : Trail) (o : Occurrences) → IsTrail t → length t.marks.items ≡ nodes → All (IsWithin nodes) clauses → IsOpened nodes clauses o → IsSettling clauses 0 t o
opened_settling clauses nodes t o s long within opened = record {
  trail = s;
  within = subst (λ n. All (IsWithin n) clauses) (sym long) within;
  upto = omega arith;
  wide = opened.wide ∙ ap (λ n. 2 * n) (sym long);
  long = opened.long;
  rows = opened.rows;
  counted = opened.counted;
}

module _ (clauses : List Clause) (looked : ℕ) (t : Trail) (o : Occurrences) (s : IsSettling clauses looked t o) where
  abbrev known : Literal → Bool
  known = is_among (take looked t.literals.items)

  not_known : (l : Literal) → is_open_at t.marks.items l ≡ true → known (negated l) ≡ false
  not_known l on = false_from_ne_true (known (negated l)) (λ has. false≢true (ap not (sym (s.trail.marked (negated l) ∙ among_take looked t.literals.items (negated l) has)) ∙ on))

  -- a clause that counts less than two has at most one open literal
  pub one_open : (k : ℕ) → k < length clauses → slice_index_or o.counts.items k 0 < 2 → HasOneOpen t.marks.items (clause_at clauses k)
  one_open k inside few l m has other =
      let a = filtered (is_open_at t.marks.items) (clause_at clauses k) l has in
      let b = filtered (is_open_at t.marks.items) (clause_at clauses k) m other in
      true_from_ne_false (same_literal m l) (λ off.
      let two : 2 ≤ slice_index_or o.counts.items k 0 = count_pair known (clause_at clauses k) (slice_index_or o.counts.items k 0) l m (s.counted k inside) a.0 b.0 (not_known l a.1) (not_known m b.1) off in
      omega arith)

  pub settling_grown : (new : Trail) → IsGrown t new → IsSettling clauses looked new o
  settling_grown new g = record {
    trail = g.trail;
    within = subst (λ n. All (IsWithin n) clauses) (sym g.long) s.within;
    upto = (let long = ap length g.grown in let sum = length-append t.literals.items g.more in omega (arith, s.upto));
    wide = s.wide ∙ ap (λ n. 2 * n) (sym g.long);
    long = s.long;
    rows = s.rows;
    counted = subst (λ ls. (k : ℕ) → k < length clauses → IsCounted (is_among ls) (clause_at clauses k) (slice_index_or o.counts.items k 0))
        (sym (ap (take looked) g.grown ∙ take-append-le looked t.literals.items g.more s.upto)) s.counted;
  }

  pub settled_grown : (new : Trail) → IsGrown t new → (k : ℕ) → IsSettledAt clauses t o k → IsSettledAt clauses new o k
  settled_grown new g k (inl is) = inl (satisfied_grown t new (clause_at clauses k) g is)
  settled_grown new g k (inr two) = inr two

  -- ---- one more literal is looked at

  module _ (more : looked < length t.literals.items) where
    abbrev literal : Literal
    literal = get_or t.literals.items looked (minus 0)

    abbrev row : List ℕ
    row = row_at o.rows (place_of (negated literal))

    known_more : (m : Literal) → is_among (take (looked + 1) t.literals.items) m ≡ (known m || same_literal m literal)
    known_more m = ap (λ ls. is_among ls m) (take_more t.literals.items looked (minus 0) more) ∙ among_push (take looked t.literals.items) literal m

    row_count : (k : ℕ) → k < length clauses → count_by (λ j. j == k) row ≡ cond (is_among (clause_at clauses k) (negated literal)) 1 0
    row_count k inside = row_counts clauses o.rows s.rows (negated literal) k inside

    row_past : (k : ℕ) → length clauses ≤ k → count_by (λ j. j == k) row ≡ 0
    row_past k past =
        none_before clauses k row (All-weaker (λ j. j < length clauses) (λ j. j < k) (λ j less. omega arith) row (row_within clauses o.rows s.rows (negated literal)))

    pub lower_enough : (k : ℕ) → count_by (λ j. j == k) row ≤ slice_index_or o.counts.items k 0
    lower_enough k =
        elim (cases_lt k (length clauses)) as (λ _. count_by (λ j. j == k) row ≤ slice_index_or o.counts.items k 0) [
          | inl inside ↦
              let enough = count_enough known (clause_at clauses k) (slice_index_or o.counts.items k 0) (s.counted k inside) (is_among (take (looked + 1) t.literals.items)) literal known_more (s.trail.new looked more) in
              let count = row_count k inside in
              omega (arith, enough, count)
          | inr past ↦ let none = row_past k past in omega (arith, none)
        ]

    module _ (new : Occurrences) (same_rows : new.rows ≡ o.rows) (long : length new.counts.items ≡ length o.counts.items)
        (counts : (k : ℕ) → slice_index_or new.counts.items k 0 + count_by (λ j. j == k) row ≡ slice_index_or o.counts.items k 0) where
      pub lowered : IsSettling clauses (looked + 1) t new
      lowered = record {
        trail = s.trail;
        within = s.within;
        upto = omega arith;
        wide = ap (λ (rows : List (List ℕ)). length rows) same_rows ∙ s.wide;
        long = long ∙ s.long;
        rows = subst (λ rows. AreRows clauses (length clauses) [] rows) (sym same_rows) s.rows;
        counted = λ k inside.
            count_known known (clause_at clauses k) (slice_index_or o.counts.items k 0) (s.counted k inside) (is_among (take (looked + 1) t.literals.items)) literal known_more (s.trail.new looked more)
            (slice_index_or new.counts.items k 0) (ap (λ n. slice_index_or new.counts.items k 0 + n) (sym (row_count k inside)) ∙ counts k);
      }

      pub lowered_settled : (k : ℕ) → count_by (λ j. j == k) row ≡ 0 → IsSettledAt clauses t o k → IsSettledAt clauses t new k
      lowered_settled k none (inl is) = inl is
      lowered_settled k none (inr two) = inr (let e = counts k in omega (arith, e, none, two))

-- the next number of a row
pub row_next : (row : List ℕ) (i k : ℕ) → i < length row → (get_or row i 0 ≡ k → ⊥) → count_by (λ j. j == k) (drop (i + 1) row) ≡ 0 → count_by (λ j. j == k) (drop i row) ≡ 0
row_next row i k inside other none =
    let sum = sum_by-drop_more (λ j. cond (j == k) 1 0) row i 0 inside in
    let off : cond (get_or row i 0 == k) 1 0 ≡ 0 = ap value (ne_eqb (get_or row i 0) k other) in
    omega (arith, sum, off, none)
  where
    value : Bool → ℕ
    value b = cond b 1 0

pub settled_kept : (clauses : List Clause) (t new : Trail) (o : Occurrences) → IsGrown t new → (k : ℕ) → IsSettledAt clauses t o k → IsSettledAt clauses new o k
settled_kept clauses t new o g k (inl is) = inl (satisfied_grown t new (clause_at clauses k) g is)
settled_kept clauses t new o g k (inr two) = inr two

-- one more clause is settled
pub settled_more : (clauses : List Clause) (t new : Trail) (o : Occurrences) (k : ℕ) → IsGrown t new → ((j : ℕ) → j < k → IsSettledAt clauses t o j) → IsSettledAt clauses new o k → (j : ℕ) → j < k + 1 → IsSettledAt clauses new o j
settled_more clauses t new o k g before is j inside =
    elim (cases_lt j k) as (λ _. IsSettledAt clauses new o j) [
      | inl less ↦ settled_kept clauses t new o g j (before j less)
      | inr past ↦ let e : k ≡ j = omega arith in subst (IsSettledAt clauses new o) e is
    ]

-- one more clause of a row is settled
pub settled_in_row : (clauses : List Clause) (t new : Trail) (o : Occurrences) (row : List ℕ) (i n : ℕ) → i < length row → IsGrown t new → ((j : ℕ) → j < n → count_by (λ k. k == j) (drop i row) ≡ 0 → IsSettledAt clauses t o j) → IsSettledAt clauses new o (get_or row i 0)
    → (j : ℕ) → j < n → count_by (λ k. k == j) (drop (i + 1) row) ≡ 0 → IsSettledAt clauses new o j
settled_in_row clauses t new o row i n inside g before is j within none =
    elim (cases_eq (get_or row i 0) j) as (λ _. IsSettledAt clauses new o j) [
      | inl same ↦ subst (IsSettledAt clauses new o) same is
      | inr other ↦ settled_kept clauses t new o g j (before j within (row_next row i j inside other none))
    ]

-- one more clause is counted
pub counted_more : (clauses : List Clause) (k : ℕ) (counts : List ℕ) (n : ℕ) → length counts ≡ k → ((j : ℕ) → j < k → IsCounted (λ l. false) (clause_at clauses j) (slice_index_or counts j 0)) → IsCounted (λ l. false) (clause_at clauses k) n
    → (j : ℕ) → j < k + 1 → IsCounted (λ l. false) (clause_at clauses j) (slice_index_or (counts ++ n ∷ []) j 0)
counted_more clauses k counts n long before is j inside =
    elim (cases_lt j k) as (λ _. IsCounted (λ l. false) (clause_at clauses j) (slice_index_or (counts ++ n ∷ []) j 0)) [
      | inl less ↦ subst (IsCounted (λ l. false) (clause_at clauses j)) (sym (get_or_append_left counts (n ∷ []) 0 j (omega arith))) (before j less)
      | inr past ↦
          let e : k ≡ j = omega arith in
          subst (λ i. IsCounted (λ l. false) (clause_at clauses i) (slice_index_or (counts ++ n ∷ []) i 0)) e (subst (IsCounted (λ l. false) (clause_at clauses k)) (sym (get_or_push counts n 0 k long)) is)
    ]

-- the place of a literal of the table
pub place_within : (l : Literal) (n : ℕ) → l.1 < n → place_of l < 2 * n
place_within (true, v) n inside = let e : v < n = inside in omega arith
place_within (false, v) n inside = let e : v < n = inside in omega arith

-- a clause is settled where it counts two
pub counts_two : (clauses : List Clause) (t : Trail) (o : Occurrences) (k : ℕ) → nat_lt (slice_index_or o.counts.items k 0) 2 ≡ false → IsSettledAt clauses t o k
counts_two clauses t o k off = inr (ltb-false (slice_index_or o.counts.items k 0) 2 off)
