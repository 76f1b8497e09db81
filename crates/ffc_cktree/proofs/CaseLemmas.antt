-- Cases: the line of a root, and the rules of cases, one after another.
use Rattle.std.proofs.Common.{◌≡◌, ◌≢◌, ℕ, zero, suc, ◌+◌, ◌-◌, ◌*◌, ◌%◌, ◌<◌, ◌≤◌, ◌==◌, nat_lt, Bool, true, false, not, ◌&&◌, List, [], ◌∷◌, ◌++◌, length, reverse, Ok, Err, refl, sym, ap, ap₂, ◌∙◌, arith, mod-eq_of_lt}
use Rattle.std.specs.List.{range_with_len}
use Rattle.std.proofs.Math.Nat.{zero-mod}
use Rattle.std.proofs.lemmas.Bool.{cond-true, cond-false, le-ltb, lt-ltb, eq-eqb, ne_eqb, eqb-true}
use Rattle.std.proofs.lemmas.List.{reverse-append}
use Rattle.ffc_ring.specs.Polynomial.{Terms, SamePolynomial}
use Rattle.ffc_uni.specs.Univariate.{Coefficients, coefficient_at, SameUnivariate, multiple, times, product_of_roots, terms_in}
use Rattle.ffc_uni.proofs.Coefficients.{coefficient_at-plus, coefficient_at-multiple}
use Rattle.ffc_uni.proofs.RingLemmas.{same_in_ring}
use Rattle.ffc_trees.specs.Normal.{IsNormal}
use Rattle.ffc_trees.specs.TreeLines.{line_at, is_in, coefficients_of, are_below, is_same, root_line, case_lines, split_line, values_line}
use Rattle.ffc_trees.specs.Same.{IsSameLine}
use Rattle.ffc_trees.proofs.NormalLemmas.{normal_same, normal_is_normal}
use Rattle.ffc_cktree.specs.declared.cases.Case.{Case}
use Rattle.ffc_cktree.proofs.RowLemmas.{is_same-same}

-- ---- the line of a root

pub root_is : (p x a : ℕ) (row : Coefficients) (r : Terms) → 0 < p → IsNormal p r → SamePolynomial p r (terms_in x row) → SameUnivariate p row ((p - a) ∷ 1 ∷ []) → IsSameLine p r (root_line p x a)
unfolding root_line
root_is p x a row r some n same is = record {
  one = n;
  other = normal_is_normal p (terms_in x ((p - a) ∷ 1 ∷ [])) some;
  same = λ m. same m ∙ same_in_ring p x row ((p - a) ∷ 1 ∷ []) is m ∙ sym (normal_same p (terms_in x ((p - a) ∷ 1 ∷ [])) m);
}

-- ---- more roots than the degree

past_end : (a : Coefficients) (k : ℕ) → length a ≤ k → coefficient_at a k ≡ 0
past_end [] k h = refl
past_end (c ∷ a) zero h = absurd (omega arith)
past_end (c ∷ a) (suc k) h = past_end a k (omega arith)

-- a coefficient of the product with one factor more
with_factor : (p a : ℕ) (f : Coefficients) (k : ℕ) → coefficient_at (times ((p - a) ∷ 1 ∷ []) f) (suc k) ≡ (p - a) * coefficient_at f (suc k) + coefficient_at f k
with_factor p a f k =
    let tail : coefficient_at (0 ∷ []) k ≡ 0 = none_at k in
    let first = coefficient_at-plus (multiple (p - a) f) (0 ∷ times (1 ∷ []) f) (suc k) in
    let second = coefficient_at-plus (multiple 1 f) (0 ∷ []) k in
    omega (arith, first, second, tail, coefficient_at-multiple (p - a) f (suc k), coefficient_at-multiple 1 f k)
  where
    none_at : (j : ℕ) → coefficient_at (0 ∷ []) j ≡ 0
    none_at zero = refl
    none_at (suc j) = refl

above_top : (p : ℕ) (roots : List ℕ) (k : ℕ) → length roots < k → coefficient_at (product_of_roots p roots) k ≡ 0
above_top p roots zero h = absurd (omega arith)
above_top p [] (suc k) h = refl
above_top p (a ∷ roots) (suc k) h =
    let f = product_of_roots p roots in
    with_factor p a f k ∙ ap₂ (λ i j. (p - a) * i + j) (above_top p roots (suc k) (omega arith)) (above_top p roots k (omega arith)) ∙ omega arith

top_is : (p : ℕ) (roots : List ℕ) → coefficient_at (product_of_roots p roots) (length roots) ≡ 1
top_is p [] = refl
top_is p (a ∷ roots) =
    let f = product_of_roots p roots in
    with_factor p a f (length roots) ∙ ap₂ (λ i j. (p - a) * i + j) (above_top p roots (suc (length roots)) (omega arith)) (top_is p roots) ∙ omega arith

cases_false : (b : Bool) → (b ≡ true → ⊥) → b ≡ false
cases_false true h = absurd (h refl)
cases_false false h = refl

pub too_many_roots : (p : ℕ) (a : Coefficients) (roots : List ℕ) → 1 < p → length a ≤ length roots → is_same p a (product_of_roots p roots) ≡ false
too_many_roots p a roots more h =
    cases_false (is_same p a (product_of_roots p roots)) (λ is.
    let at = is_same-same p a (product_of_roots p roots) is (length roots) in
    let none : coefficient_at a (length roots) % p ≡ 0 = ap (λ k. k % p) (past_end a (length roots) h) ∙ zero-mod p in
    let one : coefficient_at (product_of_roots p roots) (length roots) % p ≡ 1 = ap (λ k. k % p) (top_is p roots) ∙ mod-eq_of_lt more in
    let wrong : 0 ≡ 1 = sym none ∙ at ∙ one in omega (arith, wrong))

-- ---- the rules of cases by roots

module _ (p : ℕ) (lines : List Terms) (k x : ℕ) (roots : List ℕ) where
  pub split_missing : length lines ≤ k → split_line p lines k x roots ≡ Err 12
  unfolding split_line
  split_missing h = cond-true _ _ _ (ap not (le-ltb k (length lines) h))

  pub split_no_roots : k < length lines → (nat_lt 0 (length roots) && are_below p roots) ≡ false → split_line p lines k x roots ≡ Err 7
  unfolding split_line
  split_no_roots h e = cond-false _ _ _ (ap not (lt-ltb k (length lines) h)) ∙ cond-true _ _ _ (ap not e)

  module _ (h : k < length lines) (e : (nat_lt 0 (length roots) && are_below p roots) ≡ true) where
    pub split_elsewhere : is_in x (line_at lines k) ≡ false → split_line p lines k x roots ≡ Err 7
    unfolding split_line
    split_elsewhere i =
        cond-false _ _ _ (ap not (lt-ltb k (length lines) h)) ∙ cond-false _ _ _ (ap not e)
        ∙ cond-true _ _ _ (ap (λ b. not (b && is_same p (coefficients_of (line_at lines k)) (product_of_roots p roots))) i)

    pub split_differs : is_in x (line_at lines k) ≡ true → is_same p (coefficients_of (line_at lines k)) (product_of_roots p roots) ≡ false → split_line p lines k x roots ≡ Err 7
    unfolding split_line
    split_differs i s =
        cond-false _ _ _ (ap not (lt-ltb k (length lines) h)) ∙ cond-false _ _ _ (ap not e) ∙ cond-true _ _ _ (ap₂ (λ a b. not (a && b)) i s)

    pub split_kept : is_in x (line_at lines k) ≡ true → is_same p (coefficients_of (line_at lines k)) (product_of_roots p roots) ≡ true → split_line p lines k x roots ≡ Ok (case_lines p lines x roots)
    unfolding split_line
    split_kept i s =
        cond-false _ _ _ (ap not (lt-ltb k (length lines) h)) ∙ cond-false _ _ _ (ap not e) ∙ cond-false _ _ _ (ap₂ (λ a b. not (a && b)) i s)

-- ---- the rules of cases by all values

module _ (p : ℕ) (lines : List Terms) (x count : ℕ) where
  pub values_many : 17 < p → values_line p lines x count ≡ Err 7
  unfolding values_line
  values_many h = cond-true _ _ _ (lt-ltb 17 p h)

  pub values_other : p ≤ 17 → count ≢ p → values_line p lines x count ≡ Err 7
  unfolding values_line
  values_other h n = cond-false _ _ _ (le-ltb 17 p h) ∙ cond-true _ _ _ (ap not (ne_eqb count p n))

  pub values_kept : p ≤ 17 → count ≡ p → values_line p lines x count ≡ Ok (case_lines p lines x (range_with_len 0 p))
  unfolding values_line
  values_kept h e = cond-false _ _ _ (le-ltb 17 p h) ∙ cond-false _ _ _ (ap not (eq-eqb count p e))

-- ---- cases that wait

pub case_pushed : (old new : List Case) (c : Case) (rest : List Case) (all : List Case) → new ≡ old ++ c ∷ [] → reverse old ≡ rest ++ all → reverse new ≡ (c ∷ rest) ++ all
case_pushed old new c rest all e h = ap reverse e ∙ reverse-append old (c ∷ []) ∙ ap (λ l. c ∷ l) h

pub some_roots : (roots : List ℕ) → (length roots == 0) ≡ false → nat_lt 0 (length roots) ≡ true
some_roots [] h = cc
some_roots (a ∷ roots) h = lt-ltb 0 (suc (length roots)) (omega arith)

pub no_root : (roots : List ℕ) → (length roots == 0) ≡ true → nat_lt 0 (length roots) ≡ false
no_root roots h = le-ltb 0 (length roots) (omega (arith, eqb-true (length roots) 0 h))

range_from : (a n : ℕ) → range_with_len a (n + 1) ≡ range_with_len a n ++ (a + n) ∷ []
range_from a zero = ap (λ k. k ∷ []) (let same : a ≡ a + 0 = omega arith in same)
range_from a (suc n) =
    ap (range_with_len a) (let same : suc n + 1 ≡ suc (n + 1) = omega arith in same)
    ∙ ap (λ l. a ∷ l) (range_from (a + 1) n)
    ∙ ap (λ k. a ∷ (range_with_len (a + 1) n ++ k ∷ [])) (let same : a + 1 + n ≡ a + suc n = omega arith in same)

pub range_more : (n : ℕ) → range_with_len 0 (n + 1) ≡ range_with_len 0 n ++ n ∷ []
range_more n = range_from 0 n ∙ ap (λ k. range_with_len 0 n ++ k ∷ []) (let same : 0 + n ≡ n = omega arith in same)
