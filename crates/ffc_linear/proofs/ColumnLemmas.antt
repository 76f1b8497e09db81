-- The columns of constants and of monomials.
use Rattle.std.proofs.Common.{inl, inr, ◌≡◌, ◌≢◌, ℕ, zero, suc, ◌+◌, ◌<◌, ◌≤◌, ◌==◌, Bool, true, false, cond, List, [], ◌∷◌, length, get_or, Option, Some, None, Ok, Err, option_map, refl, sym, ap, ap₂, ◌∙◌, arith, eq-eqb, ne_eqb}
use Rattle.std.specs.List.Sorted.{IsStrictlyIncreasing, IsBinarySearchResult}
use Rattle.std.specs.Ordering.{nat_cmp}
use Rattle.std.proofs.lemmas.Bool.{cases_lt, eqb-true, false≢true, or_cases}
use Rattle.std.proofs.lemmas.List.Kept.{AllPairs-from_increasing}
use Rattle.std.proofs.lemmas.List.Sorted.{searched}
use Rattle.std.proofs.lemmas.Option.{same_Some, none-some}
use Rattle.ffc_ring.specs.Monomial.{Monomial, IsMonomial, degree}
use Rattle.ffc_rules.specs.Cones.{is_listed}
use Rattle.ffc_trees.specs.NodePolynomials.{HasVariables}
use Rattle.ffc_linear.specs.Affine.{column_of, monomial_column}

-- ---- the columns of constants

option_suc : (o : Option ℕ) (k : ℕ) → option_map suc o ≡ Some k → (j : ℕ) × (o ≡ Some j) × (suc j ≡ k)
option_suc None k e = absurd (none-some k e)
option_suc (Some j) k e = (j, refl, same_Some (suc j) k e)

-- the first constant, or a later one
found_in : (id : ℕ) (ids : List ℕ) (x k : ℕ) → ((j : ℕ) → column_of ids x ≡ Some j → (j < length ids) × (get_or ids j 0 ≡ x))
    → (b : Bool) → (id == x) ≡ b → cond b (Some 0) (option_map suc (column_of ids x)) ≡ Some k → (k < length (id ∷ ids)) × (get_or (id ∷ ids) k 0 ≡ x)
found_in id ids x zero later true is e = (omega arith, eqb-true id x is)
found_in id ids x (suc k) later true is e = let first : 0 ≡ suc k = same_Some 0 (suc k) e in absurd (omega arith)
found_in id ids x zero later false is e = let (j, at, next) = option_suc (column_of ids x) zero e in absurd (omega (arith, next))
found_in id ids x (suc k) later false is e =
    let (j, at, next) = option_suc (column_of ids x) (suc k) e in
    let same : j ≡ k = omega (arith, next) in
    let there = later k (at ∙ ap Some same) in (omega (arith, there.0), there.1)

-- a column has its constant
constant_at : (ids : List ℕ) (x k : ℕ) → column_of ids x ≡ Some k → (k < length ids) × (get_or ids k 0 ≡ x)
constant_at [] x k e = absurd (none-some k e)
constant_at (id ∷ ids) x k e = found_in id ids x k (λ j at. constant_at ids x j at) (id == x) refl e

-- the place of a constant that differs from those before it is its column
column_at : (ids : List ℕ) (x k : ℕ) → ((i j : ℕ) → i < j → j < length ids → get_or ids i 0 < get_or ids j 0) → k < length ids → get_or ids k 0 ≡ x → column_of ids x ≡ Some k
column_at [] x k rise inside is = absurd (omega arith)
column_at (id ∷ ids) x zero rise inside is = ap (λ b. cond b (Some 0) (option_map suc (column_of ids x))) (eq-eqb id x is)
column_at (id ∷ ids) x (suc k) rise inside is =
    let below : id < get_or ids k 0 = rise 0 (suc k) (omega arith) inside in
    ap (λ b. cond b (Some 0) (option_map suc (column_of ids x))) (ne_eqb id x (λ e. omega (arith, below, is, e)))
    ∙ ap (option_map suc) (column_at ids x k (λ i j before within. rise (suc i) (suc j) (omega arith) (omega arith)) (omega arith) is)

-- what is no constant has no column
column_none : (ids : List ℕ) (x : ℕ) → ((k : ℕ) → k < length ids → get_or ids k 0 ≢ x) → column_of ids x ≡ None
column_none [] x other = refl
column_none (id ∷ ids) x other =
    ap (λ b. cond b (Some 0) (option_map suc (column_of ids x))) (ne_eqb id x (other 0 (omega arith)))
    ∙ ap (option_map suc) (column_none ids x (λ k inside. other (suc k) (omega arith)))

rising_pairs : (ids : List ℕ) → IsStrictlyIncreasing ids → (i j : ℕ) → i < j → j < length ids → get_or ids i 0 < get_or ids j 0
rising_pairs ids increasing i j before inside = AllPairs-from_increasing ids increasing i j 0 before inside

non_decreasing : (ids : List ℕ) → IsStrictlyIncreasing ids → (i j : ℕ) → i ≤ j → j < length ids → get_or ids i 0 ≤ get_or ids j 0
non_decreasing ids increasing i j order inside =
    elim (cases_lt i j) as (λ _. get_or ids i 0 ≤ get_or ids j 0) [
      | inl before ↦ let less = rising_pairs ids increasing i j before inside in omega arith
      | inr after ↦ let same : i ≡ j = omega arith in let e : get_or ids i 0 ≡ get_or ids j 0 = ap (λ k. get_or ids k 0) same in omega arith
    ]

-- what a binary search finds is the column
pub column_found : (ids : List ℕ) (x place : ℕ) → IsStrictlyIncreasing ids → IsBinarySearchResult (λ y. nat_cmp y x) ids (Ok place) → column_of ids x ≡ Some place
column_found ids x place increasing search_is =
    let found = searched ids x (Ok place) search_is (non_decreasing ids increasing) in
    column_at ids x place (rising_pairs ids increasing) found.0 found.1

pub column_missed : (ids : List ℕ) (x place : ℕ) → IsStrictlyIncreasing ids → IsBinarySearchResult (λ y. nat_cmp y x) ids (Err place) → column_of ids x ≡ None
column_missed ids x place increasing search_is =
    let missed = searched ids x (Err place) search_is (non_decreasing ids increasing) in
    column_none ids x
    (λ k inside e. elim (cases_lt k place) as (λ _. ⊥) [
      | inl before ↦ let less = missed.1 k before in omega (arith, less, e)
      | inr after ↦ let more = missed.2 k after inside in omega (arith, more, e)
    ])

-- ---- the columns of monomials

-- a power with a column is a constant
power_at : (ids : List ℕ) (x e k : ℕ) → monomial_column ids ((x, e) ∷ []) ≡ Some k → (e ≡ 1) × (k < length ids) × (get_or ids k 0 ≡ x)
power_at ids x e k h = by_case (e == 1) refl h
  where
    by_case : (b : Bool) → (e == 1) ≡ b → cond b (column_of ids x) None ≡ Some k → (e ≡ 1) × (k < length ids) × (get_or ids k 0 ≡ x)
    by_case true is at = let there = constant_at ids x k at in (eqb-true e 1 is, there.0, there.1)
    by_case false is at = absurd (none-some k at)

column_below : (ids : List ℕ) (m : Monomial) (k : ℕ) → monomial_column ids m ≡ Some k → k < length ids + 1
column_below ids [] k e = let is : length ids ≡ k = same_Some (length ids) k e in omega arith
column_below ids ((x, n) ∷ []) k e = let at = power_at ids x n k e in omega (arith, at.1)
column_below ids (f ∷ g ∷ m) k e = absurd (none-some k e)

-- a column is among those of the constants and the number
pub column_inside : (ids : List ℕ) (m : Monomial) (column : Option ℕ) (k width : ℕ) → column ≡ monomial_column ids m → column ≡ Some k → width ≡ length ids + 1 → k < width
column_inside ids m column k width of is wide = let below = column_below ids m k (sym of ∙ is) in omega arith

-- monomials of one column are one
pub one_column : (ids : List ℕ) (m n : Monomial) (k : ℕ) → monomial_column ids m ≡ Some k → monomial_column ids n ≡ Some k → m ≡ n
one_column ids [] [] k e h = refl
one_column ids [] ((y, d) ∷ []) k e h =
    let is : length ids ≡ k = same_Some (length ids) k e in
    let at = power_at ids y d k h in absurd (omega (arith, at.1))
one_column ids [] (f ∷ g ∷ n) k e h = absurd (none-some k h)
one_column ids ((x, c) ∷ []) [] k e h =
    let is : length ids ≡ k = same_Some (length ids) k h in
    let at = power_at ids x c k e in absurd (omega (arith, at.1))
one_column ids ((x, c) ∷ []) ((y, d) ∷ []) k e h =
    let at = power_at ids x c k e in
    let there = power_at ids y d k h in
    ap₂ (λ v w. (v, w) ∷ []) (sym at.2 ∙ there.2) (at.0 ∙ sym there.0)
one_column ids ((x, c) ∷ []) (f ∷ g ∷ n) k e h = absurd (none-some k h)
one_column ids (f ∷ g ∷ m) n k e h = absurd (none-some k e)

some_later : (o : Option ℕ) → o ≢ None → option_map suc o ≡ None → ⊥
some_later None some e = some refl
some_later (Some j) some e = none-some (suc j) (sym e)

-- a listed variable has a column
listed_column : (ids : List ℕ) (x : ℕ) → is_listed ids x ≡ true → column_of ids x ≢ None
listed_column [] x listed none = false≢true listed
listed_column (id ∷ ids) x listed none = by_case (id == x) refl none (λ later. listed_column ids x later)
  where
    by_case : (b : Bool) → (id == x) ≡ b → cond b (Some 0) (option_map suc (column_of ids x)) ≡ None → (is_listed ids x ≡ true → column_of ids x ≢ None) → ⊥
    by_case true is e rest = none-some 0 (sym e)
    by_case false is e rest =
        elim (or_cases (x == id) (is_listed ids x) listed) as (λ _. ⊥) [
          | inl here ↦ false≢true (sym is ∙ eq-eqb id x (sym (eqb-true x id here)))
          | inr later ↦ some_later (column_of ids x) (rest later) e
        ]

-- a monomial of degree at most 1 in listed variables has a column
pub low_column : (ids : List ℕ) (m : Monomial) → IsMonomial m → degree m ≤ 1 → HasVariables (λ x. is_listed ids x ≡ true) m → monomial_column ids m ≢ None
low_column ids [] is low listed none = none-some (length ids) (sym none)
low_column ids ((x, e) ∷ []) is low listed none =
    let one : e ≡ 1 = omega (arith, is.1) in
    listed_column ids x listed.0 (sym (ap (λ b. cond b (column_of ids x) None) (eq-eqb e 1 one)) ∙ none)
low_column ids (f ∷ g ∷ m) is low listed none = omega (arith, is.1, is.2.1)
