-- A dense buffer: one number for each column.
use Rattle.std.proofs.Common.{◌≡◌, ℕ, zero, suc, ◌+◌, ◌*◌, ◌%◌, ◌<◌, ◌≤◌, eqb, List, [], ◌∷◌, ◌++◌, All, length, map, get_or, set, take, drop, replicate, inl, inr, refl, sym, ap, ap₂, ◌∙◌, subst, arith, eq-eqb, ne_eqb, mod-eq_of_lt, zero-add, add-one, append_assoc}
use Rattle.std.proofs.lemmas.Bool.{cond-true, cond-false, cases_eq}
use Rattle.std.proofs.lemmas.List.{length-set, get_or-set_same, get_or-set_other, get_or-map, length-map, length-replicate, map-set, set_past, take_at, drop_more}
use Rattle.std.proofs.lemmas.List.Elements.{All-head, All-tail, All-cons, All-nil, All-map}
use Rattle.std.proofs.Math.Nat.{mul-zero, zero-mod}
use Rattle.ffc_field.specs.Modular.{add_mod, mul_mod}
use Rattle.ffc_echelon.specs.Vectors.{Coordinates, AreCoordinates, AreCoordinatesFrom, coordinate, IsBelow}
use Rattle.ffc_echelon.specs.Buffers.{raised, with_multiple, nonzero_from}
use Rattle.ffc_echelon.proofs.CoordinateLemmas.{coordinate-here, coordinate-there, coordinate-before, coordinate-below, coordinates_lower}

pub length-with_multiple : (p c : ℕ) (v : Coordinates) (xs : List ℕ) → length (with_multiple p c v xs) ≡ length xs
length-with_multiple p c [] xs = refl
length-with_multiple p c (e ∷ v) xs =
    length-with_multiple p c v (raised p xs e.0 (mul_mod p c e.1)) ∙ length-set xs e.0 (add_mod p (get_or xs e.0 0) (mul_mod p c e.1))

-- columns before the first one stay
get_or-with_multiple_before : (p c low : ℕ) (v : Coordinates) (xs : List ℕ) (k : ℕ) → AreCoordinatesFrom p low v → k < low → get_or (with_multiple p c v xs) k 0 ≡ get_or xs k 0
get_or-with_multiple_before p c low [] xs k valid before = refl
get_or-with_multiple_before p c low (e ∷ v) xs k valid before =
    get_or-with_multiple_before p c (suc e.0) v (raised p xs e.0 (mul_mod p c e.1)) k valid.3 (omega (arith, valid.0))
    ∙ get_or-set_other xs e.0 k (add_mod p (get_or xs e.0 0) (mul_mod p c e.1)) 0 (λ same. omega (arith, valid.0))

-- each column gets the multiple of its coordinate
pub get_or-with_multiple : (p c low : ℕ) (v : Coordinates) (xs : List ℕ) (k : ℕ) → AreCoordinatesFrom p low v → IsBelow (length xs) v → get_or xs k 0 < p → get_or (with_multiple p c v xs) k 0 ≡ add_mod p (get_or xs k 0) (mul_mod p c (coordinate v k))
get_or-with_multiple p c low [] xs k valid within below =
    sym (ap (λ n. add_mod p (get_or xs k 0) n) (ap (λ n. n % p) (mul-zero c) ∙ zero-mod p)
    ∙ ap (λ n. n % p) (let same : get_or xs k 0 + 0 ≡ get_or xs k 0 = omega arith in same) ∙ mod-eq_of_lt below)
get_or-with_multiple p c low (e ∷ v) xs k valid within below =
    let sum = add_mod p (get_or xs e.0 0) (mul_mod p c e.1) in
    let rest : IsBelow (length (set xs e.0 sum)) v = subst (λ n. IsBelow n v) (sym (length-set xs e.0 sum)) (All-tail (λ e. e.0 < length xs) e v within) in
    elim (cases_eq e.0 k) [
      | inl same ↦
          let at : e.0 < length xs = All-head (λ e. e.0 < length xs) e v within in
          get_or-with_multiple_before p c (suc e.0) v (set xs e.0 sum) k valid.3 (omega arith)
          ∙ ap (λ j. get_or (set xs e.0 sum) j 0) (sym same)
          ∙ get_or-set_same xs e.0 sum 0 at
          ∙ ap₂ (λ j n. add_mod p (get_or xs j 0) (mul_mod p c n)) same (sym (coordinate-here e v k same))
      | inr other ↦
          let kept : get_or (set xs e.0 sum) k 0 ≡ get_or xs k 0 = get_or-set_other xs e.0 k sum 0 (λ same. other (sym same)) in
          get_or-with_multiple p c (suc e.0) v (set xs e.0 sum) k valid.3 rest (subst (λ n. n < p) (sym kept) below)
          ∙ ap₂ (λ n m. add_mod p n (mul_mod p c m)) kept (sym (coordinate-there e v k other))
    ]

pub get_or-zeros : (n k : ℕ) → get_or (replicate {A = ℕ} n 0) k 0 ≡ 0
get_or-zeros zero k = refl
get_or-zeros (suc n) zero = refl
get_or-zeros (suc n) (suc k) = get_or-zeros n k

-- ---- the coordinates other than 0

pub nonzero_from-zero : (low x : ℕ) (xs : List ℕ) → x ≡ 0 → nonzero_from low (x ∷ xs) ≡ nonzero_from (suc low) xs
nonzero_from-zero low x xs none = cond-true (eqb x 0) (nonzero_from (suc low) xs) ((low, x) ∷ nonzero_from (suc low) xs) (eq-eqb x 0 none)

pub nonzero_from-other : (low x : ℕ) (xs : List ℕ) → (x ≡ 0 → ⊥) → nonzero_from low (x ∷ xs) ≡ (low, x) ∷ nonzero_from (suc low) xs
nonzero_from-other low x xs some = cond-false (eqb x 0) (nonzero_from (suc low) xs) ((low, x) ∷ nonzero_from (suc low) xs) (ne_eqb x 0 some)

pub coordinates-nonzero_from : (p low : ℕ) (xs : List ℕ) → All (λ x. x < p) xs → AreCoordinatesFrom p low (nonzero_from low xs)
coordinates-nonzero_from p low [] below = tt
coordinates-nonzero_from p low (x ∷ xs) below =
    let rest = coordinates-nonzero_from p (suc low) xs (All-tail (λ x. x < p) x xs below) in
    elim (cases_eq x 0) [
      | inl none ↦ subst (AreCoordinatesFrom p low) (sym (nonzero_from-zero low x xs none)) (coordinates_lower p low (suc low) (nonzero_from (suc low) xs) (omega arith) rest)
      | inr some ↦ subst (AreCoordinatesFrom p low) (sym (nonzero_from-other low x xs some)) (omega arith, omega (arith, some), All-head (λ x. x < p) x xs below, rest)
    ]

pub coordinate-nonzero_from : (p low : ℕ) (xs : List ℕ) (k : ℕ) → All (λ x. x < p) xs → coordinate (nonzero_from low xs) (low + k) ≡ get_or xs k 0
coordinate-nonzero_from p low [] k below = refl
coordinate-nonzero_from p low (x ∷ xs) zero below =
    let rest = coordinates-nonzero_from p (suc low) xs (All-tail (λ x. x < p) x xs below) in
    elim (cases_eq x 0) [
      | inl none ↦ ap (λ v. coordinate v (low + 0)) (nonzero_from-zero low x xs none) ∙ coordinate-before p (suc low) (nonzero_from (suc low) xs) (low + 0) rest (omega arith) ∙ sym none
      | inr some ↦ ap (λ v. coordinate v (low + 0)) (nonzero_from-other low x xs some) ∙ coordinate-here (low, x) (nonzero_from (suc low) xs) (low + 0) (omega arith)
    ]
coordinate-nonzero_from p low (x ∷ xs) (suc k) below =
    let next : coordinate (nonzero_from (suc low) xs) (low + suc k) ≡ get_or xs k 0 =
    ap (coordinate (nonzero_from (suc low) xs)) (let same : low + suc k ≡ suc low + k = omega arith in same)
    ∙ coordinate-nonzero_from p (suc low) xs k (All-tail (λ x. x < p) x xs below) in
    elim (cases_eq x 0) [
      | inl none ↦ ap (λ v. coordinate v (low + suc k)) (nonzero_from-zero low x xs none) ∙ next
      | inr some ↦
          ap (λ v. coordinate v (low + suc k)) (nonzero_from-other low x xs some)
          ∙ coordinate-there (low, x) (nonzero_from (suc low) xs) (low + suc k) (λ same. omega (arith, same))
          ∙ next
    ]

pub below-nonzero_from : (n low : ℕ) (xs : List ℕ) → low + length xs ≤ n → IsBelow n (nonzero_from low xs)
below-nonzero_from n low [] within = All-nil (λ e. e.0 < n)
below-nonzero_from n low (x ∷ xs) within =
    let rest = below-nonzero_from n (suc low) xs (omega arith) in
    elim (cases_eq x 0) [
      | inl none ↦ subst (IsBelow n) (sym (nonzero_from-zero low x xs none)) rest
      | inr some ↦ subst (IsBelow n) (sym (nonzero_from-other low x xs some)) (All-cons (λ e. e.0 < n) (low, x) (nonzero_from (suc low) xs) (omega arith) rest)
    ]

pub coordinate-nonzero : (p : ℕ) (xs : List ℕ) (k : ℕ) → All (λ x. x < p) xs → coordinate (nonzero_from 0 xs) k ≡ get_or xs k 0
coordinate-nonzero p xs k below =
    ap (coordinate (nonzero_from 0 xs)) (sym (zero-add k)) ∙ coordinate-nonzero_from p 0 xs k below

-- ---- elements of a field

module _ {F : Type 0} (value : F → ℕ) (p : ℕ) (below : (x : F) → value x < p) where
  pub residues_below : (xs : List F) → All (λ x. x < p) (map value xs)
  residues_below xs = All-map (λ x. x < p) value xs (λ k d within. below (get_or xs k d))

  pub residue_below : (xs : List F) (k : ℕ) → 0 < p → get_or (map value xs) k 0 < p
  residue_below [] k positive = positive
  residue_below (x ∷ xs) zero positive = below x
  residue_below (x ∷ xs) (suc k) positive = residue_below xs k positive

module _ {F : Type 0} (value : F → ℕ) where
  pub value_read : (xs : List F) (i : ℕ) (x : F) → i < length xs → x ≡ get_or xs i x → get_or (map value xs) i 0 ≡ value x
  value_read xs i x within is = get_or-map value xs i x 0 within ∙ ap value (sym is)

  -- an element that is raised
  pub raised_at : (p : ℕ) (xs : List F) (i : ℕ) (x y : F) (m : ℕ) → i < length xs → x ≡ get_or xs i x → value y ≡ add_mod p (value x) m → map value (set xs i y) ≡ raised p (map value xs) i m
  raised_at p xs i x y m within is sum =
      map-set value xs i y ∙ ap (set (map value xs) i) (sum ∙ ap (λ n. add_mod p n m) (sym (value_read xs i x within is)))

  -- there is none past the end
  pub raised_past : (p : ℕ) (xs : List F) (i m : ℕ) → length xs ≤ i → map value xs ≡ raised p (map value xs) i m
  raised_past p xs i m past = sym (set_past (map value xs) i (add_mod p (get_or (map value xs) i 0) m) (omega (arith, past, length-map xs value)))

  pub map-zeros : (n : ℕ) (z : F) → value z ≡ 0 → map value (replicate n z) ≡ replicate n 0
  map-zeros zero z none = refl
  map-zeros (suc n) z none = ap₂ ◌∷◌ none (map-zeros n z none)

-- what a slice of a whole vector is written back as
pub written_back : {A : Type 0} (n : ℕ) (xs ys : List A) → length xs ≡ n → take n (xs ++ drop (length xs) ys) ≡ xs
written_back n xs ys long = take_at xs (drop (length xs) ys) n long

-- a list from a place on begins with the element there
pub left_at : {A : Type 0} (xs : List A) (i : ℕ) (x : A) → i < length xs → x ≡ get_or xs i x → x ∷ drop (i + 1) xs ≡ drop i xs
left_at xs i x within is = sym (drop_more xs i x within ∙ ap (λ y. y ∷ drop (i + 1) xs) (sym is))

-- a vector in a buffer of zeros
pub get_or-scattered : (p n : ℕ) (v : Coordinates) (k : ℕ) → 1 < p → AreCoordinates p v → IsBelow n v → get_or (with_multiple p 1 v (replicate n 0)) k 0 ≡ coordinate v k
get_or-scattered p n v k two valid within =
    let none = get_or-zeros n k in
    let x = coordinate v k in
    let below : x < p = coordinate-below p 0 v k (omega arith) valid in
    get_or-with_multiple p 1 0 v (replicate n 0) k valid (subst (λ m. IsBelow m v) (sym (length-replicate n 0)) within) (omega (arith, none))
    ∙ ap (λ y. add_mod p y (mul_mod p 1 x)) none
    ∙ ap (λ y. (0 + y) % p) (ap (λ y. y % p) (let one : 1 * x ≡ x = omega arith in one) ∙ mod-eq_of_lt below)
    ∙ ap (λ y. y % p) (zero-add x)
    ∙ mod-eq_of_lt below

-- ---- the coordinates other than 0, element by element

module _ {F : Type 0} (value : F → ℕ) (xs : List F) (place : ℕ) (x : F) (within : place < length xs) (is : x ≡ get_or xs place x) where
  left_from : nonzero_from place (map value (drop place xs)) ≡ nonzero_from place (value x ∷ map value (drop (place + 1) xs))
  left_from = ap (λ l. nonzero_from place (map value l)) (sym (left_at xs place x within is))

  later : nonzero_from (place + 1) (map value (drop (place + 1) xs)) ≡ nonzero_from (suc place) (map value (drop (place + 1) xs))
  later = ap (λ n. nonzero_from n (map value (drop (place + 1) xs))) (add-one place)

  pub nonzero_passed : (out whole : Coordinates) → value x ≡ 0 → out ++ nonzero_from place (map value (drop place xs)) ≡ whole → out ++ nonzero_from (place + 1) (map value (drop (place + 1) xs)) ≡ whole
  nonzero_passed out whole none before =
      ap (λ l. out ++ l) (later ∙ sym (nonzero_from-zero place (value x) (map value (drop (place + 1) xs)) none) ∙ sym left_from) ∙ before

  pub nonzero_pushed : (out whole : Coordinates) → (value x ≡ 0 → ⊥) → out ++ nonzero_from place (map value (drop place xs)) ≡ whole → out ++ (place, value x) ∷ [] ++ nonzero_from (place + 1) (map value (drop (place + 1) xs)) ≡ whole
  nonzero_pushed out whole some before =
      append_assoc out ((place, value x) ∷ []) (nonzero_from (place + 1) (map value (drop (place + 1) xs)))
      ∙ ap (λ l. out ++ l)
      (ap (λ l. (place, value x) ∷ l) later ∙ sym (nonzero_from-other place (value x) (map value (drop (place + 1) xs)) some) ∙ sym left_from)
      ∙ before
