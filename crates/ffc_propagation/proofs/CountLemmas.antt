-- Counts of literals that are not known to be false, as one more literal is known or added.
use Rattle.std.proofs.Common.{inl, inr, ◌⊎◌, ◌≡◌, ℕ, ◌+◌, ◌≤◌, Bool, true, false, not, cond, ◌||◌, ◌&&◌, ◌==◌, List, [], ◌∷◌, count_by, refl, sym, ap, ◌∙◌, subst, arith}
use Rattle.std.proofs.lemmas.Bool.{false≢true, cases_Bool, and_from, and_parts, or_left, or_right, or_cases, false_from_ne_true}
use Rattle.std.proofs.lemmas.List.Sums.{sum_by-cons}
use Rattle.ffc_clause.specs.Clauses.{Literal, Clause, negated, same_truth, same_literal, is_among}
use Rattle.ffc_clause.proofs.HintLemmas.{same_literal-true}
use Rattle.ffc_bounds.proofs.ForcedLemmas.{same_literal-self}
use Rattle.ffc_propagation.specs.Counts.{AreDifferent, IsCounted}

-- ---- negations

not_twice : (b : Bool) → not (not b) ≡ b
not_twice true = refl
not_twice false = refl

pub negated_twice : (l : Literal) → negated (negated l) ≡ l
negated_twice l = λ i. (not_twice l.0 i, l.1)

same_not : (a b : Bool) → same_truth (not a) b ≡ same_truth a (not b)
same_not true true = refl
same_not true false = refl
same_not false true = refl
same_not false false = refl

-- the negation of one literal is another where the first is the negation of that one
pub negated_moved : (m l : Literal) → same_literal (negated m) l ≡ same_literal m (negated l)
negated_moved m l = ap (λ b. b && m.1 == l.1) (same_not m.0 l.0)

one_not : (a b : Bool) → same_truth a b ≡ true → same_truth (not a) b ≡ false
one_not true true e = refl
one_not true false e = absurd (false≢true e)
one_not false true e = absurd (false≢true e)
one_not false false e = refl

pub not_negated : (l : Literal) → same_literal (negated l) l ≡ false
not_negated l = false_from_ne_true _ (λ e. false≢true (sym (negation_differs l.0) ∙ (and_parts (same_truth (not l.0) l.0) _ e).0))
  where
    negation_differs : (a : Bool) → same_truth (not a) a ≡ false
    negation_differs true = refl
    negation_differs false = refl

-- what is among a list is among it where it is written otherwise
pub among_same : (ls : List Literal) (m l : Literal) → same_literal m l ≡ true → is_among ls m ≡ is_among ls l
among_same ls m l e = ap (is_among ls) (same_literal-true m l e)

-- ---- counts

abbrev one_if : Bool → ℕ
one_if b = cond b 1 0

module _ (p q : Literal → Bool) (x : Literal) (kept : (m : Literal) → same_literal m x ≡ false → q m ≡ p m) where
  -- where the literal is not listed, the counts are the same
  count_kept : (ls : List Literal) → is_among ls x ≡ false → count_by q ls ≡ count_by p ls
  count_kept [] none = refl
  count_kept (m ∷ ls) none =
      let here : same_literal x m ≡ false = false_from_ne_true _ (λ e. false≢true (sym none ∙ or_left (same_literal x m) _ e)) in
      let rest : is_among ls x ≡ false = false_from_ne_true _ (λ e. false≢true (sym none ∙ or_right (same_literal x m) _ e)) in
      let turned : same_literal m x ≡ false = false_from_ne_true _ (λ e. false≢true (sym here ∙ ap (same_literal x) (same_literal-true m x e) ∙ same_literal-self x)) in
      sum_by-cons (λ l. cond (q l) 1 0) m ls ∙ ap (λ b. cond b 1 0 + count_by q ls) (kept m turned) ∙ ap (λ n. cond (p m) 1 0 + n) (count_kept ls rest)
      ∙ sym (sum_by-cons (λ l. cond (p l) 1 0) m ls)

  -- where it is listed once, they differ by what it counts
  count_once : (ls : List Literal) → AreDifferent ls → is_among ls x ≡ true → p x ≡ true → q x ≡ false → count_by q ls + 1 ≡ count_by p ls
  count_once [] once has on off = absurd (false≢true has)
  count_once (m ∷ ls) once has on off =
      let one = sum_by-cons (λ l. cond (q l) 1 0) m ls in
      let two = sum_by-cons (λ l. cond (p l) 1 0) m ls in
      elim (cases_Bool (same_literal m x)) as (λ _. count_by q (m ∷ ls) + 1 ≡ count_by p (m ∷ ls)) [
        | inl same ↦
            let e : m ≡ x = same_literal-true m x same in
            let rest : count_by q ls ≡ count_by p ls = count_kept ls (ap (is_among ls) (sym e) ∙ once.0) in
            let no : cond (q m) 1 0 ≡ 0 = ap one_if (ap q e ∙ off) in
            let yes : cond (p m) 1 0 ≡ 1 = ap one_if (ap p e ∙ on) in
            omega (arith, one, two, rest, no, yes)
        | inr other ↦
            let later : is_among ls x ≡ true = elim (or_cases (same_literal x m) (is_among ls x) has) as (λ _. is_among ls x ≡ true) [
              | inl here ↦ absurd (false≢true (sym other ∙ ap (λ l. same_literal m l) (same_literal-true x m here) ∙ same_literal-self m))
              | inr is ↦ is
            ] in
            let rest : count_by q ls + 1 ≡ count_by p ls = count_once ls once.1 later on off in
            let alike : cond (q m) 1 0 ≡ cond (p m) 1 0 = ap one_if (kept m other) in
            omega (arith, one, two, rest, alike)
      ]

-- where the test passes at none, the count is 0
count_none : (p : Literal → Bool) (ls : List Literal) → ((m : Literal) → is_among ls m ≡ true → p m ≡ false) → count_by p ls ≡ 0
count_none p [] none = refl
count_none p (m ∷ ls) none =
    let sum = sum_by-cons (λ l. cond (p l) 1 0) m ls in
    let here : cond (p m) 1 0 ≡ 0 = ap one_if (none m (or_left (same_literal m m) _ (same_literal-self m))) in
    let rest : count_by p ls ≡ 0 = count_none p ls (λ k has. none k (or_right (same_literal k m) _ has)) in
    omega (arith, sum, here, rest)

-- where it passes at no other one than this, the count is at most 1
count_one : (p : Literal → Bool) (l : Literal) (ls : List Literal) → AreDifferent ls → ((m : Literal) → is_among ls m ≡ true → same_literal m l ≡ false → p m ≡ false) → count_by p ls ≤ 1
count_one p l [] once none = omega arith
count_one p l (m ∷ ls) once none =
    let sum = sum_by-cons (λ k. cond (p k) 1 0) m ls in
    let before : (k : Literal) → is_among ls k ≡ true → is_among (m ∷ ls) k ≡ true = λ k has. or_right (same_literal k m) _ has in
    elim (cases_Bool (same_literal m l)) as (λ _. count_by p (m ∷ ls) ≤ 1) [
      | inl same ↦
          let rest : count_by p ls ≡ 0 = count_none p ls (λ k has. none k (before k has) (false_from_ne_true _ (λ e. false≢true (sym once.0 ∙ ap (is_among ls) (same_literal-true m l same ∙ sym (same_literal-true k l e)) ∙ has)))) in
          let few : cond (p m) 1 0 ≤ 1 = at_most (p m) in
          omega (arith, sum, rest, few)
      | inr other ↦
          let off : cond (p m) 1 0 ≡ 0 = ap one_if (none m (or_left (same_literal m m) _ (same_literal-self m)) other) in
          let rest : count_by p ls ≤ 1 = count_one p l ls once.1 (λ k has. none k (before k has)) in
          omega (arith, sum, off, rest)
    ]
  where
    at_most : (b : Bool) → cond b 1 0 ≤ 1
    at_most true = omega arith
    at_most false = omega arith

-- ---- the count of a clause

-- of no literal
pub count_start : (known : Literal → Bool) → IsCounted known [] 0
count_start known = record { different = []; once = tt; same = λ m. refl; count = refl }

-- one more literal that was there
pub count_again : (known : Literal → Bool) (clause more : Clause) (x : Literal) (n : ℕ) → ((m : Literal) → is_among more m ≡ (is_among clause m || same_literal m x)) → is_among clause x ≡ true → IsCounted known clause n → IsCounted known more n
count_again known clause more x n is has s = record {
  different = s.different;
  once = s.once;
  same = λ m. s.same m ∙ elim (cases_Bool (same_literal m x)) as (λ _. is_among clause m ≡ is_among more m) [
    | inl same ↦ among_same clause m x same ∙ has ∙ sym (is m ∙ or_right (is_among clause m) _ same)
    | inr other ↦ sym (is m ∙ ap (λ b. is_among clause m || b) other ∙ or_false (is_among clause m))
  ];
  count = s.count;
}
  where
    or_false : (b : Bool) → (b || false) ≡ b
    or_false true = refl
    or_false false = refl

-- one more literal that was not
pub count_more : (known : Literal → Bool) (clause more : Clause) (x : Literal) (n : ℕ) → ((m : Literal) → is_among more m ≡ (is_among clause m || same_literal m x)) → is_among clause x ≡ false → known (negated x) ≡ false → IsCounted known clause n → IsCounted known more (n + 1)
count_more known clause more x n is none unknown s = record {
  different = x ∷ s.different;
  once = (s.same x ∙ none, s.once);
  same = λ m. ap (λ b. same_literal m x || b) (s.same m) ∙ or_turned (same_literal m x) (is_among clause m) ∙ sym (is m);
  count =
      (let sum = sum_by-cons (λ m. cond (not (known (negated m))) 1 0) x s.different in
      let one : cond (not (known (negated x))) 1 0 ≡ 1 = ap one_if (ap not unknown) in
      omega (arith, sum, one, s.count));
}
  where
    or_turned : (a b : Bool) → (a || b) ≡ (b || a)
    or_turned true true = refl
    or_turned true false = refl
    or_turned false true = refl
    or_turned false false = refl

module _ (known : Literal → Bool) (clause : Clause) (n : ℕ) (s : IsCounted known clause n) where
  -- where some literal is known from now on, a clause that has its negation counts one less
  module _ (more : Literal → Bool) (l : Literal) (is : (m : Literal) → more m ≡ (known m || same_literal m l)) (unknown : known l ≡ false) where
    others : (m : Literal) → same_literal m (negated l) ≡ false → not (more (negated m)) ≡ not (known (negated m))
    others m other = ap not (is (negated m) ∙ ap (λ b. known (negated m) || b) (negated_moved m l ∙ other) ∙ or_false (known (negated m)))
      where
        or_false : (b : Bool) → (b || false) ≡ b
        or_false true = refl
        or_false false = refl

    was : not (known (negated (negated l))) ≡ true
    was = ap not (ap known (negated_twice l) ∙ unknown)

    now : not (more (negated (negated l))) ≡ false
    now = ap not (ap more (negated_twice l) ∙ is l ∙ or_right (known l) _ (same_literal-self l))

    fewer : count_by (λ m. not (more (negated m))) s.different + cond (is_among clause (negated l)) 1 0 ≡ n
    fewer =
        elim (cases_Bool (is_among clause (negated l))) as (λ _. count_by (λ m. not (more (negated m))) s.different + cond (is_among clause (negated l)) 1 0 ≡ n) [
          | inl has ↦
              let e : cond (is_among clause (negated l)) 1 0 ≡ 1 = ap one_if has in
              let f : count_by (λ m. not (more (negated m))) s.different + 1 ≡ count_by (λ m. not (known (negated m))) s.different = count_once (λ m. not (known (negated m))) (λ m. not (more (negated m))) (negated l) others s.different s.once (s.same (negated l) ∙ has) was now in
              omega (arith, e, f, s.count)
          | inr none ↦
              let e : cond (is_among clause (negated l)) 1 0 ≡ 0 = ap one_if none in
              let f : count_by (λ m. not (more (negated m))) s.different ≡ count_by (λ m. not (known (negated m))) s.different = count_kept (λ m. not (known (negated m))) (λ m. not (more (negated m))) (negated l) others s.different (s.same (negated l) ∙ none) in
              omega (arith, e, f, s.count)
        ]

    pub count_known : (k : ℕ) → k + cond (is_among clause (negated l)) 1 0 ≡ n → IsCounted more clause k
    count_known k e = record { different = s.different; once = s.once; same = s.same; count = omega (arith, e, fewer) }

    pub count_enough : cond (is_among clause (negated l)) 1 0 ≤ n
    count_enough = omega (arith, fewer)

  -- of two literals one differs from a given one
  pub count_two : 2 ≤ n → (l : Literal) → ((m : Literal) → is_among clause m ≡ true → same_literal m l ≡ false → known (negated m) ≡ true) → ⊥
  count_two two l all =
      let few : count_by (λ m. not (known (negated m))) s.different ≤ 1 = count_one (λ m. not (known (negated m))) l s.different s.once (λ m has other. ap not (all m (sym (s.same m) ∙ has) other)) in
      omega (arith, few, s.count, two)

-- an element that passes is counted
count_some : (p : Literal → Bool) (l : Literal) (ls : List Literal) → is_among ls l ≡ true → p l ≡ true → 1 ≤ count_by p ls
count_some p l [] has on = absurd (false≢true has)
count_some p l (m ∷ ls) has on =
    let sum = sum_by-cons (λ k. cond (p k) 1 0) m ls in
    elim (or_cases (same_literal l m) (is_among ls l) has) as (λ _. 1 ≤ count_by p (m ∷ ls)) [
      | inl same ↦ let here : cond (p m) 1 0 ≡ 1 = ap one_if (ap p (sym (same_literal-true l m same)) ∙ on) in omega (arith, sum, here)
      | inr later ↦ let rest = count_some p l ls later on in omega (arith, sum, rest)
    ]

-- two different literals of a clause whose negations are not known are counted
pub count_pair : (known : Literal → Bool) (clause : Clause) (n : ℕ) (l m : Literal) → IsCounted known clause n → is_among clause l ≡ true → is_among clause m ≡ true → known (negated l) ≡ false → known (negated m) ≡ false → same_literal m l ≡ false → 2 ≤ n
count_pair known clause n l m s one two off_one off_two other =
    let p = λ (k : Literal). not (known (negated k)) in
    let q = λ (k : Literal). not (known (negated k)) && not (same_literal k l) in
    let kept : (k : Literal) → same_literal k l ≡ false → q k ≡ p k = λ k e. ap (λ b. not (known (negated k)) && not b) e ∙ and_true (not (known (negated k))) in
    let gone : q l ≡ false = ap (λ b. not (known (negated l)) && not b) (same_literal-self l) ∙ and_false (not (known (negated l))) in
    let less : count_by q s.different + 1 ≡ count_by p s.different = count_once p q l kept s.different s.once (s.same l ∙ one) (ap not off_one) gone in
    let some : 1 ≤ count_by q s.different = count_some q m s.different (s.same m ∙ two) (and_from (not (known (negated m))) _ (ap not off_two) (ap not other)) in
    omega (arith, less, some, s.count)
  where
    and_true : (b : Bool) → (b && true) ≡ b
    and_true true = refl
    and_true false = refl

    and_false : (b : Bool) → (b && false) ≡ false
    and_false true = refl
    and_false false = refl
