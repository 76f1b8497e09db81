-- Sets of lines that are gathered from lists.
use Rattle.std.proofs.Common.{◌≡◌, ◌⊎◌, inl, inr, ℕ, zero, suc, ◌+◌, ◌<◌, ◌≤◌, List, [], ◌∷◌, length, take, get_or, All, Contains, refl, sym, ap, subst, arith}
use Rattle.std.proofs.lemmas.Bool.{cases_eq, cases_lt}
use Rattle.std.proofs.lemmas.List.Elements.{All-head, All-tail}
use Rattle.std.proofs.lemmas.Map.Views.{All-insert_key}
use Rattle.std.specs.BTreeSet.{insert_key}
use Rattle.std.specs.Ordering.{nat_cmp, match_ordering}
use Rattle.ffc_mono.specs.OrderLaws.{nat_cmp-less, nat_cmp-equal, nat_cmp-greater}

pub first_in : (k : ℕ) (ks : List ℕ) → Contains (k ∷ ks) k
first_in k ks = (0, omega arith, refl)

pub later_in : (j k : ℕ) (ks : List ℕ) → Contains ks k → Contains (j ∷ ks) k
later_in j k ks (i, below, at) = (suc i, omega (arith, below), at)

-- an element is the first one or a later one
pub cases_in : (j i : ℕ) (ks : List ℕ) → Contains (j ∷ ks) i → (j ≡ i) ⊎ Contains ks i
cases_in j i ks (zero, below, at) = inl at
cases_in j i ks (suc k, below, at) = inr (k, omega (arith, below), at)

-- a key that is inserted is there
inserted_has : (k : ℕ) (ks : List ℕ) → Contains (insert_key nat_cmp ks k) k
inserted_has k [] = first_in k []
inserted_has k (x ∷ xs) =
    let later = inserted_has k xs in
    elim (cases_lt k x) as (λ _. Contains (insert_key nat_cmp (x ∷ xs) k) k) [
      | inl less ↦ subst (λ o. Contains (match_ordering o (k ∷ x ∷ xs) (x ∷ xs) (x ∷ insert_key nat_cmp xs k)) k) (sym (nat_cmp-less k x less)) (first_in k (x ∷ xs))
      | inr least ↦ elim (cases_eq k x) as (λ _. Contains (insert_key nat_cmp (x ∷ xs) k) k) [
        | inl same ↦
            subst (λ o. Contains (match_ordering o (k ∷ x ∷ xs) (x ∷ xs) (x ∷ insert_key nat_cmp xs k)) k) (sym (nat_cmp-equal k x same))
            (subst (λ y. Contains (y ∷ xs) k) same (first_in k xs))
        | inr other ↦
            subst (λ o. Contains (match_ordering o (k ∷ x ∷ xs) (x ∷ xs) (x ∷ insert_key nat_cmp xs k)) k) (sym (nat_cmp-greater k x (omega (arith, least, other))))
            (later_in x k (insert_key nat_cmp xs k) later)
      ]
    ]

-- and the others stay
inserted_keeps : (k i : ℕ) (ks : List ℕ) → Contains ks i → Contains (insert_key nat_cmp ks k) i
inserted_keeps k i [] (j, below, at) = absurd (omega (arith, below))
inserted_keeps k i (x ∷ xs) has =
    let later = λ (there : Contains xs i). inserted_keeps k i xs there in
    elim (cases_lt k x) as (λ _. Contains (insert_key nat_cmp (x ∷ xs) k) i) [
      | inl less ↦ subst (λ o. Contains (match_ordering o (k ∷ x ∷ xs) (x ∷ xs) (x ∷ insert_key nat_cmp xs k)) i) (sym (nat_cmp-less k x less)) (later_in k i (x ∷ xs) has)
      | inr least ↦ elim (cases_eq k x) as (λ _. Contains (insert_key nat_cmp (x ∷ xs) k) i) [
        | inl same ↦ subst (λ o. Contains (match_ordering o (k ∷ x ∷ xs) (x ∷ xs) (x ∷ insert_key nat_cmp xs k)) i) (sym (nat_cmp-equal k x same)) has
        | inr other ↦
            subst (λ o. Contains (match_ordering o (k ∷ x ∷ xs) (x ∷ xs) (x ∷ insert_key nat_cmp xs k)) i) (sym (nat_cmp-greater k x (omega (arith, least, other))))
            (elim (cases_in x i xs has) as (λ _. Contains (x ∷ insert_key nat_cmp xs k) i) [
              | inl here ↦ subst (Contains (x ∷ insert_key nat_cmp xs k)) here (first_in x (insert_key nat_cmp xs k))
              | inr there ↦ later_in x i (insert_key nat_cmp xs k) (later there)
            ])
      ]
    ]

-- the last of the first elements, or one before it
taken_cases : (xs : List ℕ) (k d i : ℕ) → k < length xs → Contains (take (suc k) xs) i → Contains (take k xs) i ⊎ (get_or xs k d ≡ i)
taken_cases [] k d i below has = absurd (omega arith)
taken_cases (x ∷ xs) zero d i below has =
    elim (cases_in x i [] has) as (λ _. Contains [] i ⊎ (x ≡ i)) [ inl here ↦ inr here | inr there ↦ inl there ]
taken_cases (x ∷ xs) (suc k) d i below has =
    let rest = λ (there : Contains (take (suc k) xs) i). taken_cases xs k d i (omega arith) there in
    elim (cases_in x i (take (suc k) xs) has) as (λ _. Contains (x ∷ take k xs) i ⊎ (get_or xs k d ≡ i)) [
      | inl here ↦ inl (subst (Contains (x ∷ take k xs)) here (first_in x (take k xs)))
      | inr there ↦ elim (rest there) as (λ _. Contains (x ∷ take k xs) i ⊎ (get_or xs k d ≡ i)) [
        | inl before ↦ inl (later_in x i (take k xs) before)
        | inr last ↦ inr last
      ]
    ]

pub taken_all : (n : ℕ) (xs : List ℕ) → length xs ≤ n → take n xs ≡ xs
taken_all zero [] short = refl
taken_all (suc n) [] short = refl
taken_all zero (x ∷ xs) short = absurd (omega arith)
taken_all (suc n) (x ∷ xs) short = ap (λ ys. x ∷ ys) (taken_all n xs (omega arith))

-- each of the first lines that is before a number is among the keys
abbrev pub HasBefore : ℕ → List ℕ → ℕ → List ℕ → Type 0
HasBefore before lines k keys = (i : ℕ) → Contains (take k lines) i → i < before → Contains keys i

module _ (before : ℕ) (lines : List ℕ) (k d : ℕ) (below : k < length lines) where
  next : k + 1 ≡ suc k
  next = omega arith

  -- so it is with one line more, which was inserted
  pub has_inserted : (old new : List ℕ) → new ≡ insert_key nat_cmp old (get_or lines k d) → HasBefore before lines k old → HasBefore before lines (k + 1) new
  has_inserted old new is all i has less =
      subst (λ ks. Contains ks i) (sym is)
      (elim (taken_cases lines k d i below (subst (λ n. Contains (take n lines) i) next has)) as (λ _. Contains (insert_key nat_cmp old (get_or lines k d)) i) [
        | inl earlier ↦ inserted_keeps (get_or lines k d) i old (all i earlier less)
        | inr here ↦ subst (Contains (insert_key nat_cmp old (get_or lines k d))) here (inserted_has (get_or lines k d) old)
      ])

  -- or is not before the number
  pub has_passed : (keys : List ℕ) → before ≤ get_or lines k d → HasBefore before lines k keys → HasBefore before lines (k + 1) keys
  has_passed keys late all i has less =
      elim (taken_cases lines k d i below (subst (λ n. Contains (take n lines) i) next has)) as (λ _. Contains keys i) [
        | inl earlier ↦ all i earlier less
        | inr here ↦ absurd (omega (arith, late, here, less))
      ]

-- what was there stays
pub keys_inserted : (old new : List ℕ) (k i : ℕ) → new ≡ insert_key nat_cmp old k → Contains old i → Contains new i
keys_inserted old new k i is has = subst (λ ks. Contains ks i) (sym is) (inserted_keeps k i old has)

pub below_inserted : (before : ℕ) (old new : List ℕ) (k : ℕ) → new ≡ insert_key nat_cmp old k → k < before → All (λ i. i < before) old → All (λ i. i < before) new
below_inserted before old new k is less all = subst (All (λ i. i < before)) (sym is) (All-insert_key nat_cmp k (λ i. i < before) old all less)

pub has_all : (before n : ℕ) (lines keys : List ℕ) → length lines ≤ n → HasBefore before lines n keys → (i : ℕ) → Contains lines i → i < before → Contains keys i
has_all before n lines keys short all i has less = all i (subst (λ ks. Contains ks i) (sym (taken_all n lines short)) has) less

-- a number is among others or not
pub member : (ks : List ℕ) (i : ℕ) → Contains ks i ⊎ (Contains ks i → ⊥)
member [] i = inr (λ has. absurd (omega (arith, has.1)))
member (k ∷ ks) i =
    let rest = member ks i in
    elim (cases_eq k i) as (λ _. Contains (k ∷ ks) i ⊎ (Contains (k ∷ ks) i → ⊥)) [
      | inl same ↦ inl (subst (Contains (k ∷ ks)) same (first_in k ks))
      | inr other ↦ elim rest as (λ _. Contains (k ∷ ks) i ⊎ (Contains (k ∷ ks) i → ⊥)) [
        | inl there ↦ inl (later_in k i ks there)
        | inr apart ↦ inr (λ has. elim (cases_in k i ks has) as (λ _. ⊥) [ inl here ↦ other here | inr there ↦ apart there ])
      ]
    ]

-- of the first number and others, that they are all below a number
pub below_rest : (n first : ℕ) (rest keys : List ℕ) → keys ≡ first ∷ rest → All (λ i. i < n) keys → (first < n) × All (λ i. i < n) rest
below_rest n first rest keys e all =
    let both = subst (All (λ i. i < n)) e all in
    (All-head (λ i. i < n) first rest both, All-tail (λ i. i < n) first rest both)
