-- Rows of clauses, as one more literal or one more clause is looked at.
use Rattle.std.proofs.Common.{inl, inr, ◌⊎◌, ◌≡◌, ℕ, zero, suc, ◌+◌, ◌-◌, ◌*◌, ◌<◌, ◌≤◌, ◌==◌, Bool, true, false, not, cond, ◌||◌, List, [], ◌∷◌, ◌++◌, length, take, set, get_or, replicate, filter, count_by, All, Option, Some, None, slice_get, refl, sym, ap, ap₂, ◌∙◌, subst, arith, append-nil, append_assoc, length-set, get_or-set_same, get_or-set_other}
use Rattle.std.specs.List.{range_with_len}
use Rattle.std.proofs.lemmas.Bool.{false≢true, true≢false, cases_Bool, cases_lt, cases_eq, or_left, or_right, eqb-true, eq-eqb, ne_eqb, false_from_ne_true}
use Rattle.std.proofs.lemmas.Bool.Decides.{nat_tests}
use Rattle.std.proofs.lemmas.List.{get_or_past, get_or_push, length_push, take_more, take_all, get_or-replicate, length-replicate}
use Rattle.std.proofs.lemmas.List.Elements.{filter-append, All-filter, All-get_or}
use Rattle.std.proofs.lemmas.List.Folds.{list_any-append}
use Rattle.std.proofs.lemmas.List.FromFn.{get_or-range_with_len, length-range_with_len}
use Rattle.std.proofs.lemmas.List.Sums.{sum_by-cons, sum_by_push, sum_by-take-le, count_by_more_yes, count_by_more_no}
use Rattle.std.proofs.lemmas.Option.{slice_get-get_or, slice_get_within, get_or_from_slice_get}
use Rattle.ffc_clause.specs.Clauses.{Literal, Clause, same_truth, same_literal, is_among}
use Rattle.ffc_clause.specs.Marks.{place_of}
use Rattle.ffc_clause.proofs.HintLemmas.{same_literal-true}
use Rattle.ffc_bounds.proofs.ForcedLemmas.{same_literal-self}
use Rattle.ffc_propagation.specs.Counts.{IsCounted}
use Rattle.ffc_propagation.proofs.CountLemmas.{count_again, count_more}
use Rattle.ffc_propagation.specs.Rows.{row_at, ends_with, clause_at, having, AreRows}

or_false : (b : Bool) → (b || false) ≡ b
or_false true = refl
or_false false = refl

-- what is among a list with one more element at its end
pub among_push : (ls : List Literal) (x m : Literal) → is_among (ls ++ x ∷ []) m ≡ (is_among ls m || same_literal m x)
among_push ls x m = list_any-append (same_literal m) ls (x ∷ []) ∙ ap (λ b. is_among ls m || b) (or_false (same_literal m x))

-- ---- places

-- literals are one where they have one place
same_place : (a b : Bool) (m n : ℕ) → same_literal (a, m) (b, n) ≡ (place_of (a, m) == place_of (b, n))
same_place true true m n = same_odd m n
  where
    same_odd : (x y : ℕ) → (x == y) ≡ (2 * x + 1 == 2 * y + 1)
    same_odd x y = grind (arith, nat_tests)
same_place true false m n = other m n
  where
    other : (x y : ℕ) → false ≡ (2 * x + 1 == 2 * y + 0)
    other x y = grind (arith, nat_tests)
same_place false true m n = other m n
  where
    other : (x y : ℕ) → false ≡ (2 * x + 0 == 2 * y + 1)
    other x y = grind (arith, nat_tests)
same_place false false m n = same_even m n
  where
    same_even : (x y : ℕ) → (x == y) ≡ (2 * x + 0 == 2 * y + 0)
    same_even x y = grind (arith, nat_tests)

-- places of literals that differ
other_place : (l m : Literal) → same_literal l m ≡ false → place_of l ≡ place_of m → ⊥
other_place l m other e = false≢true (sym other ∙ same_place l.0 m.0 l.1 m.1 ∙ eq-eqb (place_of l) (place_of m) e)

-- ---- the clauses that have a literal

range_more : (a n : ℕ) → range_with_len a (n + 1) ≡ range_with_len a n ++ (a + n) ∷ []
range_more a zero = let e : a ≡ a + 0 = omega arith in ap (λ j. j ∷ []) e
range_more a (suc n) =
    let long : suc n + 1 ≡ suc (n + 1) = omega arith in
    let e : a + 1 + n ≡ a + suc n = omega arith in
    ap (range_with_len a) long ∙ ap (λ xs. a ∷ xs) (range_more (a + 1) n ∙ ap (λ j. range_with_len (a + 1) n ++ j ∷ []) e)

module _ (clauses : List Clause) where
  pub having_more : (k : ℕ) (l : Literal) → having clauses (k + 1) l ≡ having clauses k l ++ cond (is_among (clause_at clauses k) l) (k ∷ []) []
  having_more k l =
      let has = λ (j : ℕ). is_among (clause_at clauses j) l in
      let first : 0 + k ≡ k = omega arith in
      ap (filter has) (range_more 0 k ∙ ap (λ j. range_with_len 0 k ++ j ∷ []) first) ∙ filter-append has (range_with_len 0 k) (k ∷ [])

  having_below : (k : ℕ) (l : Literal) → All (λ j. j < k) (having clauses k l)
  having_below k l =
      All-filter (λ j. is_among (clause_at clauses j) l) (λ j. j < k) (range_with_len 0 k) (λ i d inside.
      let long = length-range_with_len 0 k in
      let at = get_or-range_with_len 0 k i d (omega arith) in
      omega arith)

  abbrev value : Bool → ℕ
  value b = cond b 1 0

  pub none_before : (k : ℕ) (xs : List ℕ) → All (λ j. j < k) xs → count_by (λ j. j == k) xs ≡ 0
  none_before k [] few = refl
  none_before k (x ∷ xs) few =
      let sum = sum_by-cons (λ j. cond (j == k) 1 0) x xs in
      let here : x < k = few 0 x (omega arith) in
      let off : cond (x == k) 1 0 ≡ 0 = ap value (ne_eqb x k (λ e. let same : x ≡ k = e in omega arith)) in
      let rest : count_by (λ j. j == k) xs ≡ 0 = none_before k xs (λ i d more. few (suc i) d (omega arith)) in
      omega (arith, sum, off, rest)

  count_last : (n k : ℕ) (l : Literal) (b : Bool) → is_among (clause_at clauses n) l ≡ b → (k ≡ n) ⊎ (k < n) → (k < n → count_by (λ j. j == k) (having clauses n l) ≡ cond (is_among (clause_at clauses k) l) 1 0)
      → count_by (λ j. j == k) (having clauses n l ++ cond b (n ∷ []) []) ≡ cond (is_among (clause_at clauses k) l) 1 0
  count_last n k l true has (inl same) before =
      let sum = sum_by_push (λ j. cond (j == k) 1 0) (having clauses n l) n in
      let none : count_by (λ j. j == k) (having clauses n l) ≡ 0 = none_before k (having clauses n l) (subst (λ m. All (λ j. j < m) (having clauses n l)) (sym same) (having_below n l)) in
      let on : cond (n == k) 1 0 ≡ 1 = ap value (eq-eqb n k (sym same)) in
      let is : cond (is_among (clause_at clauses k) l) 1 0 ≡ 1 = ap value (ap (λ m. is_among (clause_at clauses m) l) same ∙ has) in
      omega (arith, sum, none, on, is)
  count_last n k l true has (inr less) before =
      let sum = sum_by_push (λ j. cond (j == k) 1 0) (having clauses n l) n in
      let off : cond (n == k) 1 0 ≡ 0 = ap value (ne_eqb n k (λ e. let same : n ≡ k = e in omega arith)) in
      let same = before less in
      omega (arith, sum, same, off)
  count_last n k l false has (inl same) before =
      let none : count_by (λ j. j == k) (having clauses n l) ≡ 0 = none_before k (having clauses n l) (subst (λ m. All (λ j. j < m) (having clauses n l)) (sym same) (having_below n l)) in
      let is : cond (is_among (clause_at clauses k) l) 1 0 ≡ 0 = ap value (ap (λ m. is_among (clause_at clauses m) l) same ∙ has) in
      ap (count_by (λ j. j == k)) (append-nil (having clauses n l)) ∙ none ∙ sym is
  count_last n k l false has (inr less) before = ap (count_by (λ j. j == k)) (append-nil (having clauses n l)) ∙ before less

  last_or_before : (n k : ℕ) → k < suc n → (k ≡ n) ⊎ (k < n)
  last_or_before n k inside = elim (cases_lt k n) as (λ _. (k ≡ n) ⊎ (k < n)) [
    | inl less ↦ inr less
    | inr past ↦ inl (omega arith)
  ]

  -- a clause is there once where it has the literal
  count_having : (n k : ℕ) (l : Literal) → k < n → count_by (λ j. j == k) (having clauses n l) ≡ cond (is_among (clause_at clauses k) l) 1 0
  count_having zero k l inside = absurd (omega arith)
  count_having (suc n) k l inside =
      let long : suc n ≡ n + 1 = omega arith in
      ap (λ m. count_by (λ j. j == k) (having clauses m l)) long ∙ ap (count_by (λ j. j == k)) (having_more n l)
      ∙ count_last n k l (is_among (clause_at clauses n) l) refl (last_or_before n k inside) (λ less. count_having n k l less)

-- ---- the end of a row

ends_pushed : (xs : List ℕ) (k : ℕ) → ends_with (xs ++ k ∷ []) k ≡ true
ends_pushed xs k =
    let long = length_push xs k in
    let last : length (xs ++ k ∷ []) - 1 ≡ length xs = omega arith in
    let at : slice_get (xs ++ k ∷ []) (length (xs ++ k ∷ []) - 1) ≡ Some k = ap (slice_get (xs ++ k ∷ [])) last ∙ slice_get-get_or (xs ++ k ∷ []) (length xs) k (omega arith) ∙ ap Some (get_or_push xs k k (length xs) refl) in
    ap (λ (o : Option ℕ). elim o as (λ _. Bool) [ None ↦ false | Some j ↦ j == k ]) at ∙ eq-eqb k k refl

ends_below : (xs : List ℕ) (k : ℕ) → All (λ j. j < k) xs → ends_with xs k ≡ false
ends_below xs k few = by_last (slice_get xs (length xs - 1)) refl
  where
    by_last : (o : Option ℕ) → slice_get xs (length xs - 1) ≡ o → elim o as (λ _. Bool) [ None ↦ false | Some j ↦ j == k ] ≡ false
    by_last None at = refl
    by_last (Some j) at =
        let inside = slice_get_within xs (length xs - 1) j at in
        let is = get_or_from_slice_get xs (length xs - 1) j j at in
        let less : j < k = subst (λ i. i < k) is (few (length xs - 1) j inside) in
        ne_eqb j k (λ e. let same : j ≡ k = e in omega arith)

-- a row ends with the clause that is looked at where the literal is among those of its literals that were
pub row_ends : (clauses : List Clause) (k : ℕ) (l : Literal) (b : Bool) → ends_with (having clauses k l ++ cond b (k ∷ []) []) k ≡ b
row_ends clauses k l true = ends_pushed (having clauses k l) k
row_ends clauses k l false = ap (λ xs. ends_with xs k) (append-nil (having clauses k l)) ∙ ends_below (having clauses k l) k (having_below clauses k l)

-- ---- one more literal, and one more clause

module _ (clauses : List Clause) (k : ℕ) (begun more : Clause) (x : Literal) (is : (m : Literal) → is_among more m ≡ (is_among begun m || same_literal m x)) (rows : List (List ℕ)) (s : AreRows clauses k begun rows) where
  pub had_by_row : ends_with (row_at rows (place_of x)) k ≡ is_among begun x
  had_by_row = ap (λ row. ends_with row k) (s x) ∙ row_ends clauses k x (is_among begun x)

  -- a literal that was looked at before
  pub rows_again : is_among begun x ≡ true → AreRows clauses k more rows
  rows_again had l = s l ∙ ap (λ b. having clauses k l ++ cond b (k ∷ []) []) (elim (cases_Bool (same_literal l x)) as (λ _. is_among begun l ≡ is_among more l) [
    | inl same ↦ ap (is_among begun) (same_literal-true l x same) ∙ had ∙ sym (is l ∙ or_right (is_among begun l) _ same)
    | inr other ↦ sym (is l ∙ ap (λ b. is_among begun l || b) other ∙ or_false (is_among begun l))
  ])

  -- another one
  pub rows_more : place_of x < length rows → is_among begun x ≡ false → AreRows clauses k more (set rows (place_of x) (row_at rows (place_of x) ++ k ∷ []))
  rows_more inside new l =
      elim (cases_Bool (same_literal l x)) as (λ _. row_at (set rows (place_of x) (row_at rows (place_of x) ++ k ∷ [])) (place_of l) ≡ having clauses k l ++ cond (is_among more l) (k ∷ []) []) [
        | inl same ↦
            let e : l ≡ x = same_literal-true l x same in
            ap (λ m. row_at (set rows (place_of x) (row_at rows (place_of x) ++ k ∷ [])) (place_of m)) e
            ∙ get_or-set_same rows (place_of x) (row_at rows (place_of x) ++ k ∷ []) [] inside
            ∙ ap (λ row. row ++ k ∷ []) (s x ∙ ap (λ b. having clauses k x ++ cond b (k ∷ []) []) new ∙ append-nil (having clauses k x))
            ∙ ap (λ m. having clauses k m ++ k ∷ []) (sym e) ∙ ap (λ b. having clauses k l ++ cond b (k ∷ []) []) (sym (is l ∙ or_right (is_among begun l) _ same))
        | inr other ↦
            get_or-set_other rows (place_of x) (place_of l) (row_at rows (place_of x) ++ k ∷ []) [] (other_place l x other)
            ∙ s l ∙ ap (λ b. having clauses k l ++ cond b (k ∷ []) []) (sym (is l ∙ ap (λ b. is_among begun l || b) other ∙ or_false (is_among begun l)))
      ]

-- one literal more is looked at
module _ (clauses : List Clause) (k : ℕ) (begun more : Clause) (x : Literal) (is : (m : Literal) → is_among more m ≡ (is_among begun m || same_literal m x)) (old new : List (List ℕ)) (b : Bool) (place : ℕ) (at : place ≡ place_of x) (inside : place < length old)
    (added : b ≡ not (ends_with (row_at old place) k)) (rows : new ≡ cond b (set old place (row_at old place ++ k ∷ [])) old) (s : AreRows clauses k begun old) where
  added_is : b ≡ not (is_among begun x)
  added_is = added ∙ ap (λ p. not (ends_with (row_at old p) k)) at ∙ ap not (had_by_row clauses k begun more x is old s)

  pub append_rows : AreRows clauses k more new
  append_rows = by_case (is_among begun x) refl
    where
      by_case : (had : Bool) → is_among begun x ≡ had → AreRows clauses k more new
      by_case true had = subst (AreRows clauses k more) (sym (rows ∙ ap (λ c. cond c (set old place (row_at old place ++ k ∷ [])) old) (added_is ∙ ap not had))) (rows_again clauses k begun more x is old s had)
      by_case false had =
          subst (AreRows clauses k more) (sym (rows ∙ ap (λ c. cond c (set old place (row_at old place ++ k ∷ [])) old) (added_is ∙ ap not had) ∙ ap (λ p. set old p (row_at old p ++ k ∷ [])) at))
          (rows_more clauses k begun more x is old s (subst (λ p. p < length old) at inside) had)

  pub append_counted : (n m : ℕ) → m ≡ cond b (n + 1) n → IsCounted (λ l. false) begun n → IsCounted (λ l. false) more m
  append_counted n m count c = by_case (is_among begun x) refl
    where
      by_case : (had : Bool) → is_among begun x ≡ had → IsCounted (λ l. false) more m
      by_case true had = subst (IsCounted (λ l. false) more) (sym (count ∙ ap (λ d. cond d (n + 1) n) (added_is ∙ ap not had))) (count_again (λ l. false) begun more x n is had c)
      by_case false had = subst (IsCounted (λ l. false) more) (sym (count ∙ ap (λ d. cond d (n + 1) n) (added_is ∙ ap not had))) (count_more (λ l. false) begun more x n is had refl c)

-- all literals of a clause were looked at
pub rows_next : (clauses : List Clause) (k : ℕ) (rows : List (List ℕ)) → AreRows clauses k (clause_at clauses k) rows → AreRows clauses (k + 1) [] rows
rows_next clauses k rows s l = s l ∙ sym (having_more clauses k l) ∙ sym (append-nil (having clauses (k + 1) l))

-- no clause was
pub rows_none : (clauses : List Clause) (n : ℕ) → AreRows clauses 0 [] (replicate n [])
rows_none clauses n l =
    elim (cases_lt (place_of l) n) as (λ _. row_at (replicate n []) (place_of l) ≡ []) [
      | inl inside ↦ get_or-replicate n (place_of l) [] [] inside
      | inr past ↦ get_or_past (replicate n []) (place_of l) [] (omega (arith, long_enough))
    ]
  where
    long_enough : length (replicate n (let none : List ℕ = [] in none)) ≡ n
    long_enough = length-replicate n []

-- how often a row names a clause
pub row_counts : (clauses : List Clause) (rows : List (List ℕ)) → AreRows clauses (length clauses) [] rows → (l : Literal) (k : ℕ) → k < length clauses → count_by (λ j. j == k) (row_at rows (place_of l)) ≡ cond (is_among (clause_at clauses k) l) 1 0
row_counts clauses rows s l k inside = ap (count_by (λ j. j == k)) (s l ∙ append-nil (having clauses (length clauses) l)) ∙ count_having clauses (length clauses) k l inside

pub row_within : (clauses : List Clause) (rows : List (List ℕ)) → AreRows clauses (length clauses) [] rows → (l : Literal) → All (λ j. j < length clauses) (row_at rows (place_of l))
row_within clauses rows s l = subst (All (λ j. j < length clauses)) (sym (s l ∙ append-nil (having clauses (length clauses) l))) (having_below clauses (length clauses) l)

-- ---- counting down

positive_within : (xs : List ℕ) (k : ℕ) → 1 ≤ get_or xs k 0 → k < length xs
positive_within xs k some = elim (cases_lt k (length xs)) as (λ _. k < length xs) [
  | inl inside ↦ inside
  | inr past ↦ absurd (let none = get_or_past xs k 0 past in omega arith)
]

module _ (counts now row : List ℕ) (i : ℕ) (inside : i < length row)
    (enough : (k : ℕ) → count_by (λ j. j == k) row ≤ get_or counts k 0)
    (so_far : (k : ℕ) → get_or now k 0 + count_by (λ j. j == k) (take i row) ≡ get_or counts k 0) where
  pub lower_positive : 1 ≤ get_or now (get_or row i 0) 0
  lower_positive =
      let x = get_or row i 0 in
      let more : count_by (λ j. j == x) (take (i + 1) row) ≡ count_by (λ j. j == x) (take i row) + 1 = count_by_more_yes (λ j. j == x) row i 0 inside (eq-eqb x x refl) in
      let part : count_by (λ j. j == x) (take (i + 1) row) ≤ count_by (λ j. j == x) row = sum_by-take-le (λ j. cond (j == x) 1 0) row (i + 1) in
      let a = enough x in
      let b = so_far x in
      omega (arith, more, part, a, b)

  pub lower_within : get_or row i 0 < length now
  lower_within = positive_within now (get_or row i 0) lower_positive

  pub lower_more : (v : ℕ) → v ≡ get_or now (get_or row i 0) 0 - 1 → (k : ℕ) → get_or (set now (get_or row i 0) v) k 0 + count_by (λ j. j == k) (take (i + 1) row) ≡ get_or counts k 0
  lower_more v is k =
      let x = get_or row i 0 in
      let b = so_far k in
      elim (cases_eq k x) as (λ _. get_or (set now x v) k 0 + count_by (λ j. j == k) (take (i + 1) row) ≡ get_or counts k 0) [
        | inl same ↦
            let more : count_by (λ j. j == k) (take (i + 1) row) ≡ count_by (λ j. j == k) (take i row) + 1 = count_by_more_yes (λ j. j == k) row i 0 inside (eq-eqb x k (sym same)) in
            let set_here : get_or (set now x v) k 0 ≡ v = ap (λ j. get_or (set now x v) j 0) same ∙ get_or-set_same now x v 0 lower_within in
            let was : get_or now k 0 ≡ get_or now x 0 = ap (λ j. get_or now j 0) same in
            let some = lower_positive in
            omega (arith, more, set_here, was, some, is, b)
        | inr other ↦
            let more : count_by (λ j. j == k) (take (i + 1) row) ≡ count_by (λ j. j == k) (take i row) = count_by_more_no (λ j. j == k) row i 0 inside (ne_eqb x k (λ e. other (sym e))) in
            let kept : get_or (set now x v) k 0 ≡ get_or now k 0 = get_or-set_other now x k v 0 other in
            omega (arith, more, kept, b)
      ]
