-- Roots among the nodes of an increasing list, which are met one after another, and tests of all of them.
use Rattle.std.proofs.Common.{◌≡◌, ℕ, ◌+◌, ◌<◌, ◌≤◌, inl, inr, ◌&&◌, eqb, Bool, true, false, List, length, get_or, drop, All, Contains, IsPermutation, refl, sym, ap, ◌∙◌, subst, arith}
use Rattle.std.specs.List.{list_all, dedup}
use Rattle.std.specs.List.Sorted.{IsStrictlyIncreasing}
use Rattle.std.proofs.lemmas.Bool.{cases_lt, cases_eq}
use Rattle.std.proofs.lemmas.List.{drop_more, drop_all, get_or_default}
use Rattle.std.proofs.lemmas.List.Elements.{All-contains, Contains-get_or}
use Rattle.std.proofs.lemmas.List.Kept.{AllPairs-from_increasing, Contains-dedup_nat, Contains-from_dedup}
use Rattle.std.proofs.lemmas.List.Sorted.{Contains-permutation, IsPermutation-sym}
use Rattle.std.proofs.lemmas.List.Sums.{AllPass-from_list_all, list_all-from_AllPass}
use Rattle.ffc_term.specs.declared.node.Node.{Node}
use Rattle.ffc_term.specs.Checks.{IsNodeOf, AreNodesOf}
use Rattle.ffc_term.specs.Lists.{HaveSameNumbers}

module _ (nodes roots : List ℕ) (i next : ℕ) where
  -- the nodes so far are smaller than the next root
  abbrev pub AreBefore : Type 0
  AreBefore = (j : ℕ) → j < i → next < length roots → get_or nodes j 0 < get_or roots next 0

  -- the place of the next root among the nodes
  place : (inside : next < length roots) → (among : All (Contains nodes) roots) → get_or nodes (among next 0 inside).0 0 ≡ get_or roots next 0
  place inside among =
      let has = among next 0 inside in
      get_or_default nodes has.0 0 (get_or roots next 0) has.1 ∙ has.2

  -- after a root, all nodes so far are smaller than the one after it
  pub before_one_more : IsStrictlyIncreasing roots → get_or roots next 0 ≡ get_or nodes i 0 → AreBefore → (j : ℕ) → j < i + 1 → next + 1 < length roots → get_or nodes j 0 < get_or roots (next + 1) 0
  before_one_more rises here before j early inside =
      let step : get_or roots next 0 < get_or roots (next + 1) 0 = rises next (omega arith) in
      elim (cases_lt j i) as (λ _. get_or nodes j 0 < get_or roots (next + 1) 0) [
        | inl less ↦ let below : get_or nodes j 0 < get_or roots next 0 = before j less (omega arith) in omega arith
        | inr late ↦ let same : i ≡ j = omega arith in subst (λ k. get_or nodes k 0 < get_or roots (next + 1) 0) same (omega arith)
      ]

  -- a node that is not the next root is smaller
  smaller : IsStrictlyIncreasing nodes → (inside : next < length roots) → All (Contains nodes) roots → ¬ (get_or roots next 0 ≡ get_or nodes i 0) → AreBefore → get_or nodes i 0 < get_or roots next 0
  smaller rises inside among other before =
      let has = among next 0 inside in
      let read : get_or nodes has.0 0 ≡ get_or roots next 0 = place inside among in
      elim (cases_lt has.0 i) as (λ _. get_or nodes i 0 < get_or roots next 0) [
        | inl less ↦ let below : get_or nodes has.0 0 < get_or roots next 0 = before has.0 less inside in absurd (omega arith)
        | inr late ↦ elim (cases_eq i has.0) as (λ _. get_or nodes i 0 < get_or roots next 0) [
          | inl same ↦ absurd (other (sym read ∙ ap (λ k. get_or nodes k 0) (sym same)))
          | inr differ ↦ let less : get_or nodes i 0 < get_or nodes has.0 0 = AllPairs-from_increasing nodes rises i has.0 0 (omega arith) has.1 in omega arith
        ]
      ]

  pub before_same : IsStrictlyIncreasing nodes → All (Contains nodes) roots → ¬ (get_or roots next 0 ≡ get_or nodes i 0) → AreBefore → (j : ℕ) → j < i + 1 → next < length roots → get_or nodes j 0 < get_or roots next 0
  before_same rises among other before j early inside =
      elim (cases_lt j i) as (λ _. get_or nodes j 0 < get_or roots next 0) [
        | inl less ↦ before j less inside
        | inr late ↦ let same : i ≡ j = omega arith in subst (λ k. get_or nodes k 0 < get_or roots next 0) same (smaller rises inside among other before)
      ]

  -- after all nodes no root is left
  pub none_left : length nodes ≤ i → All (Contains nodes) roots → AreBefore → length roots ≤ next
  none_left over among before =
      elim (cases_lt next (length roots)) as (λ _. length roots ≤ next) [
        | inl inside ↦
            let has = among next 0 inside in
            let read : get_or nodes has.0 0 ≡ get_or roots next 0 = place inside among in
            let below : get_or nodes has.0 0 < get_or roots next 0 = before has.0 (omega (arith, has.1)) inside in
            absurd (omega arith)
        | inr past ↦ past
      ]

module _ (f : ℕ → Bool) (roots : List ℕ) (next : ℕ) (all : Bool) where
  pub one_passed : next < length roots → f (get_or roots next 0) ≡ true → list_all f (drop next roots) ≡ all → list_all f (drop (next + 1) roots) ≡ all
  one_passed inside on rest =
      ap (λ b. b && list_all f (drop (next + 1) roots)) (sym on) ∙ sym (ap (list_all f) (drop_more roots next 0 inside)) ∙ rest

  pub all_passed : length roots ≤ next → list_all f (drop next roots) ≡ all → true ≡ all
  all_passed past rest = sym (ap (list_all f) (drop_all next roots past)) ∙ rest

-- the listed nodes of a check are among its nodes
pub roots_among : (ns : List Node) (ids nodes roots : List ℕ) → AreNodesOf ns ids nodes → HaveSameNumbers roots ids → All (Contains nodes) roots
roots_among ns ids nodes roots are same i d inside =
    let id : ℕ = get_or roots i d in
    (are.each id).1 (IsNodeOf.listed ((same.each id).0 (Contains-get_or roots i d inside)))

-- Tests of the same numbers

both_ways : (a b : Bool) → (a ≡ true → b ≡ true) → (b ≡ true → a ≡ true) → a ≡ b
both_ways true b there back = sym (there refl)
both_ways false true there back = back refl
both_ways false false there back = refl

pub All-among : (P : ℕ → Type 0) (xs ys : List ℕ) → ((id : ℕ) → Contains ys id → Contains xs id) → All P xs → All P ys
All-among P xs ys within all i d inside = let id : ℕ = get_or ys i d in All-contains P xs id all (within id (Contains-get_or ys i d inside))

passed_on : (q : ℕ → Bool) (xs ys : List ℕ) → ((id : ℕ) → Contains ys id → Contains xs id) → list_all q xs ≡ true → list_all q ys ≡ true
passed_on q xs ys within all = list_all-from_AllPass q ys (All-among (λ id. q id ≡ true) xs ys within (AllPass-from_list_all q xs all))

pub same_tests : (q : ℕ → Bool) (xs ys : List ℕ) → HaveSameNumbers xs ys → list_all q xs ≡ list_all q ys
same_tests q xs ys same =
    both_ways (list_all q xs) (list_all q ys) (passed_on q xs ys (λ id. (same.each id).1)) (passed_on q ys xs (λ id. (same.each id).0))

pub sorted_once : (ids copied sorted once : List ℕ) → copied ≡ ids → IsPermutation copied sorted → once ≡ dedup eqb sorted → HaveSameNumbers once ids
sorted_once ids copied sorted once copy order left = record {
  each = λ id. (
    λ has. subst (λ xs. Contains xs id) copy (Contains-permutation sorted copied id (IsPermutation-sym copied sorted order) (Contains-from_dedup eqb sorted id (subst (λ xs. Contains xs id) left has))),
    λ has. subst (λ xs. Contains xs id) (sym left) (Contains-dedup_nat sorted id (Contains-permutation copied sorted id order (subst (λ xs. Contains xs id) (sym copy) has))),
  );
}
