-- In which columns forms end.
use Rattle.std.proofs.Common.{◌≡◌, ◌≢◌, ◌⊎◌, inl, inr, ℕ, zero, suc, ◌+◌, ◌<◌, ◌≤◌, List, [], ◌∷◌, ◌++◌, All, Some, length, drop, get_or, set, replicate, slice_get, refl, sym, ap, ◌∙◌, subst, arith, add-one}
use Rattle.std.proofs.lemmas.Bool.{cases_eq}
use Rattle.std.proofs.lemmas.List.{get_or-set_same, get_or-set_other, get_or-map, length-set, length-map, length_push, drop_more}
use Rattle.std.proofs.lemmas.List.Elements.{All-push, All-nil}
use Rattle.std.proofs.lemmas.Option.{slice_get-get_or}
use Rattle.ffc_field.specs.Modular.{mul_mod}
use Rattle.ffc_echelon.specs.Vectors.{Coordinates, AreCoordinatesFrom, AreCoordinates, coordinate}
use Rattle.ffc_echelon.specs.Placing.{EndsBefore, IsLastUnknown, Excludes, HasNumber, AreGroups, group_at, vector_at}
use Rattle.ffc_echelon.proofs.PointLemmas.{coordinate_here, coordinate_there, residues}

-- ---- the last unknown

column_low : (p low i : ℕ) (v : Coordinates) (e : ℕ × ℕ) → AreCoordinatesFrom p low v → slice_get v i ≡ Some e → low ≤ e.0
column_low p low i [] e valid at = cc
column_low p low zero (f ∷ v) e valid at = let same : f ≡ e = cc in subst (λ (m : ℕ × ℕ). low ≤ m.0) same valid.0
column_low p low (suc i) (f ∷ v) e valid at = let above = column_low p (suc f.0) i v e valid.3 at in omega (arith, valid.0)

last_at : (p n low i : ℕ) (v : Coordinates) (e : ℕ × ℕ) → AreCoordinatesFrom p low v → slice_get v i ≡ Some e → e.0 < n → EndsBefore n 0 (drop (suc i) v) → IsLastUnknown n v e.0 e.1
last_at p n low i [] e valid at inside ends = cc
last_at p n low zero (f ∷ v) e valid at inside ends =
    let same : f ≡ e = cc in
    subst (λ (m : ℕ × ℕ). IsLastUnknown n (f ∷ v) m.0 m.1) same (record {
      inside = subst (λ (m : ℕ × ℕ). m.0 < n) (sym same) inside;
      at = coordinate_here f v f.0 refl;
      nonzero = λ none. (let positive = valid.1 in omega arith);
      last = λ c above below. coordinate_there f v c (λ equal. omega arith) ∙ ends c (omega arith) below;
    })
last_at p n low (suc i) (f ∷ v) e valid at inside ends =
    let rest = last_at p n (suc f.0) i v e valid.3 at inside ends in
    let later = column_low p (suc f.0) i v e valid.3 at in
    record {
      inside = inside;
      at = coordinate_there f v e.0 (λ equal. omega arith) ∙ rest.at;
      nonzero = rest.nonzero;
      last = λ c above below. coordinate_there f v c (λ equal. omega arith) ∙ rest.last c above below;
    }

abbrev pair : ℕ → ℕ → ℕ × ℕ
pair a b = (a, b)

module _ {F : Type 0} (value : F → ℕ) where
  pub last_here : (p n i : ℕ) (items : List (ℕ × F)) (e : ℕ × F) → AreCoordinates p (residues value items) → i < length items → e ≡ get_or items i e → e.0 < n
      → EndsBefore n 0 (residues value (drop (suc i) items)) → IsLastUnknown n (residues value items) e.0 (value e.1)
  last_here p n i items e valid within at inside ends =
      last_at p n 0 i (residues value items) (e.0, value e.1) valid
      (slice_get-get_or (residues value items) i (e.0, value e.1) (omega (arith, length-map {B = ℕ × ℕ} items (λ (m : ℕ × F). (m.0, value m.1))))
      ∙ ap Some (get_or-map {Y = ℕ × ℕ} (λ (m : ℕ × F). (m.0, value m.1)) items i e (e.0, value e.1) within ∙ ap (λ (m : ℕ × F). pair m.0 (value m.1)) (sym at)))
      inside (subst (EndsBefore n 0) (map-drop (suc i) items) ends)
    where
      map-drop : (k : ℕ) (xs : List (ℕ × F)) → residues value (drop k xs) ≡ drop k (residues value xs)
      map-drop zero xs = refl
      map-drop (suc k) [] = refl
      map-drop (suc k) (x ∷ xs) = map-drop k xs

  -- an entry in the column of no unknown does not matter
  pub ends_later : (n i : ℕ) (items : List (ℕ × F)) (e : ℕ × F) → i < length items → e ≡ get_or items i e → n ≤ e.0 → EndsBefore n 0 (residues value (drop (suc i) items)) → EndsBefore n 0 (residues value (drop i items))
  ends_later n i items e within at outside ends =
      let left : drop i items ≡ e ∷ drop (suc i) items = drop_more items i e within ∙ ap (λ (m : ℕ × F). m ∷ drop (i + 1) items) (sym at) ∙ ap (λ k. e ∷ drop k items) (add-one i) in
      subst (λ (xs : List (ℕ × F)). EndsBefore n 0 (residues value xs)) (sym left)
      (λ c above below. coordinate_there (e.0, value e.1) (residues value (drop (suc i) items)) c (λ equal. omega arith) ∙ ends c above below)

-- ---- the groups

pub number_kept : {F : Type 0} (j : ℕ) (ms : List (ℕ × F)) (m : ℕ × F) → HasNumber j ms → HasNumber j (ms ++ m ∷ [])
number_kept j [] m has = absurd has
number_kept j (k ∷ ms) m (inl here) = inl here
number_kept j (k ∷ ms) m (inr there) = inr (number_kept j ms m there)

pub number_pushed : {F : Type 0} (ms : List (ℕ × F)) (m : ℕ × F) → HasNumber m.0 (ms ++ m ∷ [])
number_pushed [] m = inl refl
number_pushed (k ∷ ms) m = inr (number_pushed ms m)

empty_group : {F : Type 0} (n c : ℕ) → group_at (replicate n (let none : List (ℕ × F) = [] in none)) c ≡ []
empty_group zero c = refl
empty_group (suc n) zero = refl
empty_group (suc n) (suc c) = empty_group n c

abbrev longer_group : {F : Type 0} → List (List (ℕ × F)) → ℕ → ℕ × F → List (ℕ × F)
longer_group groups column m = group_at groups column ++ m ∷ []

module _ {F : Type 0} (p : ℕ) (value : F → ℕ) (n : ℕ) (vs : List Coordinates) where
  pub no_groups_yet : (groups : List (List (ℕ × F))) → length groups ≡ n → groups ≡ replicate n [] → AreGroups p value n vs 0 groups
  no_groups_yet groups long empty =
      let none : (c : ℕ) → group_at groups c ≡ [] = λ c. ap (λ (gs : List (List (ℕ × F))). group_at gs c) empty ∙ empty_group n c in
      record {
        long = long;
        exclude = λ c. subst (All (Excludes p value vs c)) (sym (none c)) (All-nil (Excludes p value vs c));
        covered = λ j c few inside nonzero ends. absurd (omega arith);
        short = λ c. (let e = ap length (none c) in omega arith);
      }

  -- a vector that ends in no unknown is in no group
  pub group_none : (count : ℕ) (groups : List (List (ℕ × F))) → EndsBefore n 0 (vector_at vs count) → AreGroups p value n vs count groups → AreGroups p value n vs (count + 1) groups
  group_none count groups none are = record {
    long = are.long;
    exclude = are.exclude;
    covered = λ j c few inside nonzero ends. by_number j c few inside nonzero ends (cases_eq j count);
    short = λ c. (let before = are.short c in omega arith);
  }
    where
      by_number : (j c : ℕ) → j < count + 1 → c < n → coordinate (vector_at vs j) c ≢ 0 → EndsBefore n (suc c) (vector_at vs j) → (j ≡ count) ⊎ (j ≡ count → ⊥) → HasNumber j (group_at groups c)
      by_number j c few inside nonzero ends (inl same) = absurd (nonzero (ap (λ k. coordinate (vector_at vs k) c) same ∙ none c (omega arith) inside))
      by_number j c few inside nonzero ends (inr other) = are.covered j c (omega arith) inside nonzero ends

  -- another one is in that of its last unknown
  pub group_pushed : (count column a : ℕ) (m : ℕ × F) (groups : List (List (ℕ × F))) → m.0 ≡ count → count < length vs → IsLastUnknown n (vector_at vs count) column a → mul_mod p a (value m.1) ≡ 1
      → AreGroups p value n vs count groups → AreGroups p value n vs (count + 1) (set groups column (group_at groups column ++ m ∷ []))
  group_pushed count column a m groups number there last inverse are = record {
    long = length-set groups column (longer_group groups column m) ∙ are.long;
    exclude = λ c. all_exclude c (cases_eq c column);
    covered = λ j c few inside nonzero ends. by_number j c few inside nonzero ends (cases_eq j count);
    short = λ c. still_short c (cases_eq c column);
  }
    where
      within : column < length groups
      within = omega (arith, are.long, last.inside)

      here : group_at (set groups column (longer_group groups column m)) column ≡ (longer_group groups column m)
      here = get_or-set_same groups column (longer_group groups column m) [] within

      elsewhere : (c : ℕ) → c ≢ column → group_at (set groups column (longer_group groups column m)) c ≡ group_at groups c
      elsewhere c other = get_or-set_other groups column c (longer_group groups column m) [] other

      excludes : Excludes p value vs column m
      excludes = record {
        there = subst (λ k. k < length vs) (sym number) there;
        inverse = ap (λ k. mul_mod p (coordinate (vector_at vs k) column) (value m.1)) number ∙ ap (λ k. mul_mod p k (value m.1)) last.at ∙ inverse;
      }

      all_exclude : (c : ℕ) → (c ≡ column) ⊎ (c ≡ column → ⊥) → All (Excludes p value vs c) (group_at (set groups column (longer_group groups column m)) c)
      all_exclude c (inl same) =
          subst (λ k. All (Excludes p value vs k) (group_at (set groups column (longer_group groups column m)) k)) (sym same)
          (subst (All (Excludes p value vs column)) (sym here) (All-push (Excludes p value vs column) (group_at groups column) m (are.exclude column) excludes))
      all_exclude c (inr other) = subst (All (Excludes p value vs c)) (sym (elsewhere c other)) (are.exclude c)

      still_short : (c : ℕ) → (c ≡ column) ⊎ (c ≡ column → ⊥) → length (group_at (set groups column (longer_group groups column m)) c) ≤ count + 1
      still_short c (inl same) =
          let e : length (group_at (set groups column (longer_group groups column m)) c) ≡ length (longer_group groups column m) = ap (λ k. length (group_at (set groups column (longer_group groups column m)) k)) same ∙ ap length here in
          let pushed = length_push (group_at groups column) m in
          let before = are.short column in
          omega arith
      still_short c (inr other) = let e = ap length (elsewhere c other) in let before = are.short c in omega arith

      kept : (j c : ℕ) → HasNumber j (group_at groups c) → (c ≡ column) ⊎ (c ≡ column → ⊥) → HasNumber j (group_at (set groups column (longer_group groups column m)) c)
      kept j c has (inl same) =
          subst (λ k. HasNumber j (group_at (set groups column (longer_group groups column m)) k)) (sym same)
          (subst (HasNumber j) (sym here) (number_kept j (group_at groups column) m (subst (λ k. HasNumber j (group_at groups k)) same has)))
      kept j c has (inr other) = subst (HasNumber j) (sym (elsewhere c other)) has

      one_last : (c : ℕ) → c < n → coordinate (vector_at vs count) c ≢ 0 → EndsBefore n (suc c) (vector_at vs count) → c ≡ column
      one_last c inside nonzero ends = by_order (cases_eq c column)
        where
          by_order : (c ≡ column) ⊎ (c ≡ column → ⊥) → c ≡ column
          by_order (inl same) = same
          by_order (inr other) =
              let before : c < column → ⊥ = λ less. last.nonzero (sym last.at ∙ ends column less last.inside) in
              let after : column < c → ⊥ = λ less. nonzero (last.last c less inside) in
              absurd (omega arith)

      by_number : (j c : ℕ) → j < count + 1 → c < n → coordinate (vector_at vs j) c ≢ 0 → EndsBefore n (suc c) (vector_at vs j) → (j ≡ count) ⊎ (j ≡ count → ⊥) → HasNumber j (group_at (set groups column (longer_group groups column m)) c)
      by_number j c few inside nonzero ends (inl same) =
          let column_is = one_last c inside (subst (λ k. coordinate (vector_at vs k) c ≢ 0) same nonzero) (subst (λ k. EndsBefore n (suc c) (vector_at vs k)) same ends) in
          subst (λ k. HasNumber j (group_at (set groups column (longer_group groups column m)) k)) (sym column_is)
          (subst (HasNumber j) (sym here) (subst (λ k. HasNumber k (longer_group groups column m)) (number ∙ sym same) (number_pushed (group_at groups column) m)))
      by_number j c few inside nonzero ends (inr other) = kept j c (are.covered j c (omega arith) inside nonzero ends) (cases_eq c column)
