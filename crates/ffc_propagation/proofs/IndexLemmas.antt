-- Rows whose lists are found by number.
use Rattle.std.proofs.Common.{◌≡◌, ◌≢◌, Bool, true, false, cond, ℕ, zero, suc, ◌+◌, ◌<◌, ◌≤◌, List, [], ◌∷◌, ◌++◌, length, map, set, get_or, replicate, refl, sym, ap, ap₂, ◌∙◌, subst, arith, inl, inr, length-set, get_or-set_same, get_or-set_other}
use Rattle.std.proofs.lemmas.Bool.{cases_lt, cases_eq}
use Rattle.std.proofs.lemmas.List.{get_or_past, get_or_push, get_or-replicate, get_or-map, get_or_append_left, map-set, length-replicate, length_push}
use Rattle.ffc_propagation.specs.Rows.{list_at, rows_in, row_at, IsIndex}

pub row_is : (lists : List (List ℕ)) (index : List ℕ) (p : ℕ) → p < length index → row_at (rows_in lists index) p ≡ list_at lists (get_or index p 0)
row_is lists index p inside = get_or-map (list_at lists) index p 0 [] inside

pub any_default : {X : Type 0} → (xs : List X) (i : ℕ) (d e : X) → i < length xs → get_or xs i d ≡ get_or xs i e
any_default [] i d e inside = absurd (omega arith)
any_default (x ∷ xs) zero d e inside = refl
any_default (x ∷ xs) (suc i) d e inside = any_default xs i d e (omega arith)

pub kept_long : (b : Bool) (rows : List (List ℕ)) (place : ℕ) (row : List ℕ) → length (cond b (set rows place row) rows) ≡ length rows
kept_long true rows place row = length-set rows place row
kept_long false rows place row = refl

-- ---- no lists

pub no_lists : (n : ℕ) → rows_in [] (replicate n 0) ≡ replicate n []
no_lists zero = refl
no_lists (suc n) = ap (λ rows. [] ∷ rows) (no_lists n)

abbrev zeros : ℕ → List ℕ
zeros n = replicate n 0

zero_at : (n p : ℕ) → get_or (zeros n) p 0 ≡ 0
zero_at zero p = refl
zero_at (suc n) zero = refl
zero_at (suc n) (suc p) = zero_at n p

pub no_lists_index : (n : ℕ) → IsIndex 0 (replicate n 0)
no_lists_index n = record {
  within = λ p. let none = zero_at n p in omega arith;
  apart = λ p q p_in q_in some same. let none = zero_at n p in absurd (omega arith);
}

-- ---- maps that differ at one place

map_same : (f g : ℕ → List ℕ) (xs : List ℕ) → ((p : ℕ) → p < length xs → f (get_or xs p 0) ≡ g (get_or xs p 0)) → map f xs ≡ map g xs
map_same f g [] same = refl
map_same f g (x ∷ xs) same = ap₂ (λ y ys. y ∷ ys) (same 0 (omega arith)) (map_same f g xs (λ p inside. same (suc p) (omega arith)))

map_at : (f g : ℕ → List ℕ) (xs : List ℕ) (place : ℕ) (v : List ℕ) → place < length xs → g (get_or xs place 0) ≡ v → ((p : ℕ) → p < length xs → p ≢ place → g (get_or xs p 0) ≡ f (get_or xs p 0))
    → map g xs ≡ set (map f xs) place v
map_at f g [] place v inside here others = absurd (omega arith)
map_at f g (x ∷ xs) zero v inside here others =
    ap₂ (λ y ys. y ∷ ys) here (map_same g f xs (λ p more. others (suc p) (omega arith) (λ e. let is : suc p ≡ zero = e in omega arith)))
map_at f g (x ∷ xs) (suc k) v inside here others =
    ap₂ (λ y ys. y ∷ ys) (others 0 (omega arith) (λ e. let is : zero ≡ suc k = e in omega arith))
    (map_at f g xs k v (omega arith) here (λ p more differ. others (suc p) (omega arith) (λ e. differ (let is : suc p ≡ suc k = e in omega arith))))

-- ---- a further list

module _ (lists : List (List ℕ)) (index : List ℕ) (s : IsIndex (length lists) index) (place : ℕ) (v : List ℕ) where
  same_list : (i : ℕ) → i ≤ length lists → list_at (lists ++ v ∷ []) i ≡ list_at lists i
  same_list zero few = refl
  same_list (suc i) few = get_or_append_left lists (v ∷ []) [] i (omega arith)

  pub begun_rows : rows_in (lists ++ v ∷ []) (set index place (length lists + 1)) ≡ set (rows_in lists index) place v
  begun_rows =
      let next : length lists + 1 ≡ suc (length lists) = omega arith in
      let new : list_at (lists ++ v ∷ []) (length lists + 1) ≡ v = ap (list_at (lists ++ v ∷ [])) next ∙ get_or_push lists v [] (length lists) refl in
      map-set (list_at (lists ++ v ∷ [])) index place (length lists + 1)
      ∙ ap₂ (λ rows row. set rows place row) (map_same (list_at (lists ++ v ∷ [])) (list_at lists) index (λ p inside. same_list (get_or index p 0) (s.within p))) new

  other_at : (p : ℕ) → p ≢ place → get_or (set index place (length lists + 1)) p 0 ≡ get_or index p 0
  other_at p differ = get_or-set_other index place p (length lists + 1) 0 differ

  pub begun_index : place < length index → IsIndex (length lists + 1) (set index place (length lists + 1))
  begun_index inside = record {
    within = λ p. elim (cases_eq p place) as (λ _. get_or (set index place (length lists + 1)) p 0 ≤ length lists + 1) [
      | inl same ↦ let is = ap (λ k. get_or (set index place (length lists + 1)) k 0) same ∙ get_or-set_same index place (length lists + 1) 0 inside in omega arith
      | inr other ↦ let is = other_at p other in let few = s.within p in omega arith
    ];
    apart = λ p q p_in q_in some same.
        let long = length-set index place (length lists + 1) in
        elim (cases_eq p place) as (λ _. p ≡ q) [
          | inl p_is ↦ elim (cases_eq q place) as (λ _. p ≡ q) [
            | inl q_is ↦ p_is ∙ sym q_is
            | inr q_other ↦
                let is = ap (λ k. get_or (set index place (length lists + 1)) k 0) p_is ∙ get_or-set_same index place (length lists + 1) 0 inside in
                let not = other_at q q_other in let few = s.within q in absurd (omega arith)
          ]
          | inr p_other ↦ elim (cases_eq q place) as (λ _. p ≡ q) [
            | inl q_is ↦
                let is = ap (λ k. get_or (set index place (length lists + 1)) k 0) q_is ∙ get_or-set_same index place (length lists + 1) 0 inside in
                let not = other_at p p_other in let few = s.within p in absurd (omega arith)
            | inr q_other ↦
                let p_at = other_at p p_other in let q_at = other_at q q_other in
                s.apart p q (omega arith) (omega arith) (omega arith) (sym p_at ∙ same ∙ q_at)
          ]
        ];
  }

-- ---- a list that has changed

module _ (lists : List (List ℕ)) (index : List ℕ) (s : IsIndex (length lists) index) (place : ℕ) (inside : place < length index) (k : ℕ) (at : get_or index place 0 ≡ suc k) (v : List ℕ) where
  k_within : k < length lists
  k_within = let few = s.within place in omega arith

  other_list : (p : ℕ) → p < length index → p ≢ place → list_at (set lists k v) (get_or index p 0) ≡ list_at lists (get_or index p 0)
  other_list p p_in differ = by_number (get_or index p 0) refl
    where
      by_number : (i : ℕ) → get_or index p 0 ≡ i → list_at (set lists k v) i ≡ list_at lists i
      by_number zero is = refl
      by_number (suc j) is = get_or-set_other lists k j v [] (λ e. differ (s.apart p place p_in inside (omega arith) (is ∙ ap suc e ∙ sym at)))

  pub changed_rows : rows_in (set lists k v) index ≡ set (rows_in lists index) place v
  changed_rows =
      map_at (list_at lists) (list_at (set lists k v)) index place v inside
      (ap (list_at (set lists k v)) at ∙ get_or-set_same lists k v [] k_within) other_list

  pub changed_index : IsIndex (length (set lists k v)) index
  changed_index = subst (λ n. IsIndex n index) (sym (length-set lists k v)) s
