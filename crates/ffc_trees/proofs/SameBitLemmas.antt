-- The rule of bits depends on the polynomials of the lines alone, and not on the order of their terms.
use Rattle.std.proofs.Common.{◌≡◌, ℕ, suc, ◌+◌, ◌%◌, ◌<◌, ◌≤◌, Bool, true, false, not, ◌&&◌, ◌||◌, ◌==◌, nat_lt, if◌then◌else◌, List, [], ◌∷◌, length, sum_by, refl, sym, ap, ap₂, ◌∙◌, inl, inr, arith, eqb-true}
use Rattle.std.proofs.Math.Nat.{mod-eq_of_lt, dvd_antisymm, dvd_trans}
use Rattle.std.proofs.lemmas.Bool.{cond-true, cond-false, cases_lt, cases_Bool, false_from_ne_true, false≢true, and_parts, lt-ltb, le-ltb}
use Rattle.std.proofs.lemmas.List.Sums.{sum_by-cons}
use Rattle.std.specs.Int.{◌∣◌}
use Rattle.std.specs.List.{filter, list_all}
use Rattle.ffc_ring.specs.Monomial.{Monomial, degree, same_monomial}
use Rattle.ffc_ring.specs.Polynomial.{Terms, poly_value}
use Rattle.ffc_ring.proofs.PolynomialLemmas.{same_monomial-true}
use Rattle.ffc_trees.specs.Normal.{IsNormal}
use Rattle.ffc_trees.specs.BitLines.{is_listed, is_among, is_linear_monomial, is_linear, inserted, variables_of, are_square_and_root, is_bit, above, below, size, sum_above, sum_below, terms_among, terms_besides, is_between, common_divisor, divisor_of, distance, is_impossible, choices_of, point_of, is_settled, follows}
use Rattle.ffc_trees.specs.Same.{IsSameLine}
use Rattle.ffc_trees.proofs.SameLemmas.{together, one_together, one_test, one_length}
use Rattle.ffc_trees.proofs.BitLemmas.{common_divisor-is}

abbrev Term : Type 0
Term = ℕ × Monomial

filter-in : (test : Term → Bool) (t : Term) (ts : Terms) → test t ≡ true → filter test (t ∷ ts) ≡ t ∷ filter test ts
filter-in test t ts is = cond-true _ _ _ is

filter-out : (test : Term → Bool) (t : Term) (ts : Terms) → test t ≡ false → filter test (t ∷ ts) ≡ filter test ts
filter-out test t ts is = cond-false _ _ _ is

-- ---- sums of parts

abbrev counted : (Term → Bool) → (ℕ → ℕ) → Term → ℕ → ℕ
counted test part t n = (if test t then part t.0 else 0) + n

counted-in : (test : Term → Bool) (part : ℕ → ℕ) (t : Term) (n : ℕ) → test t ≡ true → counted test part t n ≡ part t.0 + n
counted-in test part t n is = ap (λ k. k + n) (cond-true _ _ _ is)

counted-out : (test : Term → Bool) (part : ℕ → ℕ) (t : Term) (n : ℕ) → test t ≡ false → counted test part t n ≡ n
counted-out test part t n is = ap (λ k. k + n) (cond-false _ _ _ is) ∙ omega arith

counted-swap : (test : Term → Bool) (part : ℕ → ℕ) (s t : Term) (n : ℕ) → counted test part s (counted test part t n) ≡ counted test part t (counted test part s n)
counted-swap test part s t n = omega arith

sum-together : (test : Term → Bool) (part : ℕ → ℕ) (ts : Terms) → together (counted test part) 0 (counted-swap test part) ts ≡ sum_by (λ t. part t.0) (filter test ts)
sum-together test part [] = refl
sum-together test part (t ∷ ts) =
    let rest : ℕ = together (counted test part) 0 (counted-swap test part) ts in
    let later : rest ≡ sum_by (λ u. part u.0) (filter test ts) = sum-together test part ts in
    elim (cases_Bool (test t)) as (λ _. counted test part t rest ≡ sum_by (λ u. part u.0) (filter test (t ∷ ts))) [
      | inl is ↦ rw (filter-in test t ts is) (counted-in test part t rest is ∙ ap (λ n. part t.0 + n) later ∙ sym (sum_by-cons (λ (u : Term). part u.0) t (filter test ts)))
      | inr off ↦ rw (filter-out test t ts off) (counted-out test part t rest off ∙ later)
    ]

filter-all : (ts : Terms) → filter (λ t. true) ts ≡ ts
filter-all [] = refl
filter-all (t ∷ ts) = ap (λ xs. t ∷ xs) (filter-all ts)

-- ---- divisors

divides_both : (a b x : ℕ) → common_divisor a (common_divisor b x) ∣ common_divisor b (common_divisor a x)
divides_both a b x =
    let g : ℕ = common_divisor a (common_divisor b x) in
    let outer = common_divisor-is a (common_divisor b x) in
    let inner = common_divisor-is b x in
    (common_divisor-is b (common_divisor a x)).2 g (dvd_trans g outer.1 inner.0)
    ((common_divisor-is a x).2 g outer.0 (dvd_trans g outer.1 inner.1))

divisor-swap : (a b x : ℕ) → common_divisor a (common_divisor b x) ≡ common_divisor b (common_divisor a x)
divisor-swap a b x = dvd_antisymm (divides_both a b x) (divides_both b a x)

abbrev divided : (Term → Bool) → ℕ → Term → ℕ → ℕ
divided test p t g = if test t then common_divisor (size p t.0) g else g

divided-swap : (test : Term → Bool) (p : ℕ) (s t : Term) (g : ℕ) → divided test p s (divided test p t g) ≡ divided test p t (divided test p s g)
divided-swap test p s t g = both (test s) (test t)
  where
    both : (c d : Bool) → (if c then common_divisor (size p s.0) (if d then common_divisor (size p t.0) g else g) else (if d then common_divisor (size p t.0) g else g)) ≡ (if d then common_divisor (size p t.0) (if c then common_divisor (size p s.0) g else g) else (if c then common_divisor (size p s.0) g else g))
    both true true = divisor-swap (size p s.0) (size p t.0) g
    both true false = refl
    both false true = refl
    both false false = refl

divisor-together : (test : Term → Bool) (p : ℕ) (ts : Terms) → together (divided test p) 0 (divided-swap test p) ts ≡ divisor_of p (filter test ts)
divisor-together test p [] = refl
divisor-together test p (t ∷ ts) =
    let rest : ℕ = together (divided test p) 0 (divided-swap test p) ts in
    let later : rest ≡ divisor_of p (filter test ts) = divisor-together test p ts in
    elim (cases_Bool (test t)) as (λ _. divided test p t rest ≡ divisor_of p (filter test (t ∷ ts))) [
      | inl is ↦ rw (filter-in test t ts is) (cond-true _ _ _ is ∙ ap (common_divisor (size p t.0)) later)
      | inr off ↦ rw (filter-out test t ts off) (cond-false _ _ _ off ∙ later)
    ]

-- ---- variables

inserted-before : (x y : ℕ) (ys : List ℕ) → x < y → inserted x (y ∷ ys) ≡ x ∷ y ∷ ys
inserted-before x y ys less = cond-true _ _ _ (lt-ltb x y less)

inserted-after : (x y : ℕ) (ys : List ℕ) → y ≤ x → inserted x (y ∷ ys) ≡ y ∷ inserted x ys
inserted-after x y ys more = cond-false _ _ _ (le-ltb x y more)

ordered-swap : (x y : ℕ) (zs : List ℕ) → x < y → inserted x (inserted y zs) ≡ inserted y (inserted x zs)
ordered-swap x y [] less = inserted-before x y [] less ∙ sym (inserted-after y x [] (omega arith))
ordered-swap x y (z ∷ zs) less =
    elim (cases_lt x z) as (λ _. inserted x (inserted y (z ∷ zs)) ≡ inserted y (inserted x (z ∷ zs))) [
      | inl first ↦
          let other : inserted y (inserted x (z ∷ zs)) ≡ x ∷ inserted y (z ∷ zs) = ap (inserted y) (inserted-before x z zs first) ∙ inserted-after y x (z ∷ zs) (omega arith) in
          elim (cases_lt y z) as (λ _. inserted x (inserted y (z ∷ zs)) ≡ inserted y (inserted x (z ∷ zs))) [
            | inl second ↦ ap (inserted x) (inserted-before y z zs second) ∙ inserted-before x y (z ∷ zs) less ∙ sym (other ∙ ap (λ xs. x ∷ xs) (inserted-before y z zs second))
            | inr later ↦ ap (inserted x) (inserted-after y z zs later) ∙ inserted-before x z (inserted y zs) first ∙ sym (other ∙ ap (λ xs. x ∷ xs) (inserted-after y z zs later))
          ]
      | inr later ↦
          ap (inserted x) (inserted-after y z zs (omega arith)) ∙ inserted-after x z (inserted y zs) later
          ∙ ap (λ xs. z ∷ xs) (ordered-swap x y zs less)
          ∙ sym (ap (inserted y) (inserted-after x z zs later) ∙ inserted-after y z (inserted x zs) (omega arith))
    ]

inserted-swap : (x y : ℕ) (zs : List ℕ) → inserted x (inserted y zs) ≡ inserted y (inserted x zs)
inserted-swap x y zs =
    elim (cases_lt x y) as (λ _. inserted x (inserted y zs) ≡ inserted y (inserted x zs)) [
      | inl less ↦ ordered-swap x y zs less
      | inr more ↦ elim (cases_lt y x) as (λ _. inserted x (inserted y zs) ≡ inserted y (inserted x zs)) [
        | inl greater ↦ sym (ordered-swap y x zs greater)
        | inr least ↦ let same : x ≡ y = omega arith in ap₂ (λ u v. inserted u (inserted v zs)) same (sym same)
      ]
    ]

abbrev with_variable : Term → List ℕ → List ℕ
with_variable (c, []) xs = xs
with_variable (c, f ∷ m) xs = inserted f.0 xs

variable-swap : (s t : Term) (xs : List ℕ) → with_variable s (with_variable t xs) ≡ with_variable t (with_variable s xs)
variable-swap (c, []) t xs = refl
variable-swap (c, f ∷ m) (d, []) xs = refl
variable-swap (c, f ∷ m) (d, g ∷ n) xs = inserted-swap f.0 g.0 xs

variables-together : (ts : Terms) → together with_variable [] variable-swap ts ≡ variables_of ts
variables-together [] = refl
variables-together ((c, []) ∷ ts) = variables-together ts
variables-together ((c, f ∷ m) ∷ ts) = ap (inserted f.0) (variables-together ts)

-- ---- which lines say that a variable is a bit

abbrev is_square : ℕ → Monomial → Bool
is_square x m = same_monomial m ((x, 2) ∷ [])

abbrev is_root : ℕ → Monomial → Bool
is_root x m = same_monomial m ((x, 1) ∷ [])

not_both : (x : ℕ) (m : Monomial) → (is_square x m && is_root x m) ≡ false
not_both x m = false_from_ne_true (is_square x m && is_root x m) (λ h.
    let both = and_parts (is_square x m) (is_root x m) h in
    let same : (x, 2) ∷ [] ≡ (x, 1) ∷ [] = sym (same_monomial-true m ((x, 2) ∷ []) both.0) ∙ same_monomial-true m ((x, 1) ∷ []) both.1 in
    let twice : 2 ≡ 1 = ap degree same in absurd (omega arith))

-- 1 for the square, 3 for the variable: 4 for one of each
abbrev mark : Bool → Bool → ℕ
mark square root = if square then 1 else (if root then 3 else 0)

one_of_each : (a b c d : Bool) → (a && b) ≡ false → (c && d) ≡ false → ((a && d) || (b && c)) ≡ (mark a b + mark c d == 4)
one_of_each true true c d h g = absurd (false≢true (sym h))
one_of_each true false true true h g = absurd (false≢true (sym g))
one_of_each true false true false h g = refl
one_of_each true false false true h g = refl
one_of_each true false false false h g = refl
one_of_each false true true true h g = absurd (false≢true (sym g))
one_of_each false true true false h g = refl
one_of_each false true false true h g = refl
one_of_each false true false false h g = refl
one_of_each false false true true h g = absurd (false≢true (sym g))
one_of_each false false true false h g = refl
one_of_each false false false true h g = refl
one_of_each false false false false h g = refl

abbrev marked : ℕ → Term → ℕ → ℕ
marked x t n = mark (is_square x t.1) (is_root x t.1) + n

abbrev marks : ℕ → Terms → ℕ
marks x ts = together (marked x) 0 (λ s t n. omega arith) ts

abbrev coefficients : Terms → ℕ
coefficients ts = together (λ t n. t.0 + n) 0 (λ s t n. omega arith) ts

keep_true : (b c : Bool) → (b && true && c) ≡ (b && c)
keep_true true c = refl
keep_true false c = refl

is_bit-by : (p x : ℕ) (ts : Terms) → IsNormal p ts → is_bit p x ts ≡ ((length ts == 2) && ((marks x ts == 4) && (coefficients ts % p == 0)))
is_bit-by p x [] is = refl
is_bit-by p x (t ∷ []) is = refl
is_bit-by p x (t ∷ u ∷ v ∷ ts) is =
    sym (ap (λ b. b && ((marks x (t ∷ u ∷ v ∷ ts) == 4) && (coefficients (t ∷ u ∷ v ∷ ts) % p == 0)))
    (false_from_ne_true (suc (suc (suc (length ts))) == 2) (λ e. absurd (omega (arith, eqb-true (suc (suc (suc (length ts)))) 2 e)))))
is_bit-by p x (t ∷ u ∷ []) is =
    let some : nat_lt 0 (t.0 % p) ≡ true = lt-ltb 0 (t.0 % p) (omega (arith, is.0, mod-eq_of_lt is.1)) in
    let pair : are_square_and_root x t.1 u.1 ≡ (marks x (t ∷ u ∷ []) == 4) =
    one_of_each (is_square x t.1) (is_root x t.1) (is_square x u.1) (is_root x u.1) (not_both x t.1) (not_both x u.1)
    ∙ ap (λ n. n == 4) (let same : mark (is_square x t.1) (is_root x t.1) + mark (is_square x u.1) (is_root x u.1) ≡ marks x (t ∷ u ∷ []) = omega arith in same)
    in let sum : t.0 + u.0 ≡ coefficients (t ∷ u ∷ []) = omega arith in
    ap₂ (λ b c. b && c && ((t.0 + u.0) % p == 0)) pair some ∙ keep_true (marks x (t ∷ u ∷ []) == 4) ((t.0 + u.0) % p == 0)
    ∙ ap (λ n. (marks x (t ∷ u ∷ []) == 4) && (n % p == 0)) sum

-- ---- two normal lists of one polynomial

abbrev impossible_by : (up down more less g : ℕ) → Bool
impossible_by up down more less g = nat_lt (down + less) up || nat_lt (up + more) down || not (distance up down % g == 0)

module _ (p : ℕ) (a b : Terms) (positive : 0 < p) (is : IsSameLine p a b) where
  one : {A : Type 0} (op : Term → A → A) (start : A) (swap : (s t : Term) (x : A) → op s (op t x) ≡ op t (op s x)) → together op start swap a ≡ together op start swap b
  one op start swap = one_together op start swap p a b positive is.one is.other is.same

  one_sum : (test : Term → Bool) (part : ℕ → ℕ) → sum_by (λ t. part t.0) (filter test a) ≡ sum_by (λ t. part t.0) (filter test b)
  one_sum test part = sym (sum-together test part a) ∙ one (counted test part) 0 (counted-swap test part) ∙ sum-together test part b

  one_whole_sum : (part : ℕ → ℕ) → sum_by (λ (t : Term). part t.0) a ≡ sum_by (λ (t : Term). part t.0) b
  one_whole_sum part =
      ap (λ (ts : Terms). sum_by (λ t. part t.0) ts) (sym (filter-all a)) ∙ one_sum (λ t. true) part ∙ ap (λ (ts : Terms). sum_by (λ t. part t.0) ts) (filter-all b)

  one_divisor : (test : Term → Bool) → divisor_of p (filter test a) ≡ divisor_of p (filter test b)
  one_divisor test = sym (divisor-together test p a) ∙ one (divided test p) 0 (divided-swap test p) ∙ divisor-together test p b

  pub one_variables : variables_of a ≡ variables_of b
  one_variables = sym (variables-together a) ∙ one with_variable [] variable-swap ∙ variables-together b

  pub one_linear : is_linear a ≡ is_linear b
  one_linear = one_test (λ t. is_linear_monomial t.1) p a b positive is

  pub one_bit : (x : ℕ) → is_bit p x a ≡ is_bit p x b
  one_bit x =
      is_bit-by p x a is.one
      ∙ ap₂ (λ n c. (n == 2) && c) (one_length p a b positive is)
      (ap₂ (λ m c. (m == 4) && (c % p == 0)) (one (marked x) 0 (λ s t n. omega arith)) (one (λ t n. t.0 + n) 0 (λ s t n. omega arith)))
      ∙ sym (is_bit-by p x b is.other)

  one_between : is_between p a ≡ is_between p b
  one_between =
      ap₂ (λ m n. nat_lt m (n + p) && nat_lt (sum_above p a) (sum_below p (terms_among [] a) + p)) (one_whole_sum (below p)) (one_sum (λ t. is_among [] t.1) (above p))
      ∙ ap₂ (λ m n. nat_lt (sum_below p b) (sum_above p (terms_among [] b) + p) && nat_lt m (n + p)) (one_whole_sum (above p)) (one_sum (λ t. is_among [] t.1) (below p))

  one_impossible : (ones chosen : List ℕ) → is_impossible p (terms_among ones a) (terms_besides chosen a) ≡ is_impossible p (terms_among ones b) (terms_besides chosen b)
  one_impossible ones chosen =
      let taken : Term → Bool = λ t. is_among ones t.1 in
      let left : Term → Bool = λ t. not (is_among chosen t.1) in
      ap₂ (λ u d. impossible_by u d (sum_above p (terms_besides chosen a)) (sum_below p (terms_besides chosen a)) (divisor_of p (terms_besides chosen a))) (one_sum taken (above p)) (one_sum taken (below p))
      ∙ ap₂ (λ m n. impossible_by (sum_above p (terms_among ones b)) (sum_below p (terms_among ones b)) m n (divisor_of p (terms_besides chosen a))) (one_sum left (above p)) (one_sum left (below p))
      ∙ ap (λ g. impossible_by (sum_above p (terms_among ones b)) (sum_below p (terms_among ones b)) (sum_above p (terms_besides chosen b)) (sum_below p (terms_besides chosen b)) g) (one_divisor left)

  one_settled : (chosen : List ℕ) (written : Terms) (choices : List (List ℕ)) → list_all (is_settled p a chosen written) choices ≡ list_all (is_settled p b chosen written) choices
  one_settled chosen written [] = refl
  one_settled chosen written (ones ∷ choices) =
      ap₂ (λ c d. c && d) (ap (λ c. (poly_value p (point_of ones) written == 0) || c) (one_impossible ones chosen)) (one_settled chosen written choices)

  pub one_follows : (chosen : List ℕ) (written : Terms) → follows p a chosen written ≡ follows p b chosen written
  one_follows chosen written =
      ap₂ (λ c d. c && d) (ap₂ (λ xs c. list_all (is_listed xs) chosen && c) one_variables one_between) (one_settled chosen written (choices_of chosen))
