-- Rows of elements of a field, seen as lists of residues.
use Rattle.std.proofs.Common.{◌≡◌, ◌≢◌, ℕ, zero, suc, ◌+◌, ◌-◌, ◌%◌, ◌<◌, ◌≤◌, List, [], ◌∷◌, ◌++◌, length, get_or, map, take, drop, set, replicate, refl, sym, ap, ap₂, ◌∙◌, arith, append_assoc, drop-cons, add-one, Some, None}
use borrow.Rule.Slice.PartMut.{put_mid}
use Rattle.std.proofs.lemmas.List.{append-nil, drop_all, length-drop, take_at, take_more_set, drop-set-lt, map-append, take-append-drop}
use Rattle.ffc_uni.specs.Univariate.{Coefficients, coefficient_at, SameUnivariate, IsNormal}
use Rattle.ffc_uni.specs.Rows.{leading}
use Rattle.ffc_uni.proofs.Coefficients.{coefficient_at-zero_behind}

-- what is left from a place on begins with the element there
pub left_at : {A : Type 0} (xs : List A) (i : ℕ) (x : A) → i < length xs → x ≡ get_or xs i x → drop i xs ≡ x ∷ drop (i + 1) xs
left_at xs i x h e = drop-cons xs i x h ∙ ap₂ ◌∷◌ (sym e) (ap (λ k. drop k xs) (sym (add-one i)))

-- the same where the place after the element is known
pub left_before : {A : Type 0} (xs : List A) (end : ℕ) (x : A) → 0 < end → end ≤ length xs → x ≡ get_or xs (end - 1) x → drop (end - 1) xs ≡ x ∷ drop end xs
left_before xs end x some within e =
    left_at xs (end - 1) x (omega arith) e ∙ ap (λ k. x ∷ drop k xs) (let same : end - 1 + 1 ≡ end = omega arith in same)

-- one element more is taken
pub taken_at : {A : Type 0} (xs : List A) (i : ℕ) (x : A) → i < length xs → x ≡ get_or xs i x → take (i + 1) xs ≡ take i xs ++ x ∷ []
taken_at [] i x h e = absurd (omega arith)
taken_at (y ∷ ys) zero x h e = ap (λ k. k ∷ []) (sym e)
taken_at (y ∷ ys) (suc i) x h e = rw add-one (ap (λ k. y ∷ k) (sym (ap (λ k. take k ys) (add-one i)) ∙ taken_at ys i x (omega arith) e))

-- a write leaves what is after it
pub unwritten_behind : {A : Type 0} (xs : List A) (i : ℕ) (y : A) → drop (i + 1) (set xs i y) ≡ drop (i + 1) xs
unwritten_behind xs i y = drop-set-lt (i + 1) xs i y (omega arith)

-- what a slice of a whole vector is written back as
pub written_back : {A : Type 0} (n : ℕ) (xs ys : List A) → length xs ≡ n → take n (xs ++ drop (length xs) ys) ≡ xs
written_back n xs ys e = take_at xs (drop (length xs) ys) n e

-- the same of a slice from a place on
pub part_written_back : {A : Type 0} (n : ℕ) (xs ys : List A) → n ≤ length xs → put_mid n (length xs - n) xs ys ≡ take n xs ++ ys
part_written_back n xs ys h =
    let none : drop (length xs - n) (drop n xs) ≡ [] = drop_all (length xs - n) (drop n xs) (omega (arith, length-drop n xs)) in
    ap (λ l. take n xs ++ (ys ++ l)) none ∙ ap (λ l. take n xs ++ l) (append-nil ys)

module _ {F : Type 0} (value : F → ℕ) where
  pub length-residues : (xs : List F) → length (map value xs) ≡ length xs
  length-residues [] = refl
  length-residues (x ∷ xs) = ap suc (length-residues xs)

  pub all_written : (xs : List F) (i : ℕ) → map value (take i xs) ++ map value (drop i xs) ≡ map value xs
  all_written xs i = sym (map-append value (take i xs) (drop i xs)) ∙ ap (map value) (take-append-drop i xs)

  -- what is written at a place comes after what was before it
  pub written_at : (xs : List F) (i : ℕ) (y : F) (r : ℕ) (later : Coefficients) → i < length xs → value y ≡ r → map value (take (i + 1) (set xs i y)) ++ later ≡ map value (take i xs) ++ (r ∷ later)
  written_at xs i y r later h v =
      ap (λ k. map value k ++ later) (take_more_set xs i y h)
      ∙ ap (λ k. k ++ later) (map-append value (take i xs) (y ∷ []))
      ∙ append_assoc (map value (take i xs)) (value y ∷ []) later
      ∙ ap (λ k. map value (take i xs) ++ (k ∷ later)) v

  -- without a zero at the end
  pub zero_left_out : (p : ℕ) (xs : List F) (i : ℕ) (x : F) → i < length xs → x ≡ get_or xs i x → value x ≡ 0 → SameUnivariate p (map value (take i xs)) (map value (take (i + 1) xs))
  zero_left_out p xs i x h e none k =
      sym (ap (λ n. n % p) (coefficient_at-zero_behind (map value (take i xs)) k))
      ∙ ap (λ l. coefficient_at l k % p)
      (ap (λ n. map value (take i xs) ++ n ∷ []) (sym none) ∙ sym (map-append value (take i xs) (x ∷ [])) ∙ ap (map value) (sym (taken_at xs i x h e)))

  -- a row up to a place where there is no zero
  pub normal_up_to : (p : ℕ) (below : (x : F) → value x < p) (xs : List F) (i : ℕ) (x : F) → i < length xs → x ≡ get_or xs i x → value x ≢ 0 → IsNormal p (map value (take (suc i) xs))
  normal_up_to p below [] i x h e ne = absurd (omega arith)
  normal_up_to p below (y ∷ ys) zero x h e ne = (below y, λ none. ne (ap value e ∙ none))
  normal_up_to p below (y ∷ []) (suc i) x h e ne = absurd (omega arith)
  normal_up_to p below (y ∷ z ∷ ys) (suc i) x h e ne = (below y, normal_up_to p below (z ∷ ys) i x (omega arith) e ne)

  -- the leading coefficient is the last element's
  pub leading_at : (xs : List F) (i : ℕ) (x : F) → suc i ≡ length xs → x ≡ get_or xs i x → leading (map value xs) ≡ value x
  leading_at [] i x h e = absurd (omega arith)
  leading_at (y ∷ []) zero x h e = ap value (sym e)
  leading_at (y ∷ []) (suc i) x h e = absurd (omega arith)
  leading_at (y ∷ z ∷ ys) zero x h e = absurd (omega arith)
  leading_at (y ∷ z ∷ ys) (suc i) x h e = leading_at (z ∷ ys) i x (omega arith) e

-- the leading coefficient is not 0
pub leading-nonzero : (p : ℕ) (a : Coefficients) → IsNormal p a → 1 ≤ length a → leading a ≢ 0
leading-nonzero p [] h some = absurd (omega arith)
leading-nonzero p (c ∷ []) h some = h.1
leading-nonzero p (c ∷ d ∷ a) h some = leading-nonzero p (d ∷ a) h.1 (omega arith)

-- zeros alone are the polynomial 0
pub zeros_only : {F : Type 0} (value : F → ℕ) (p n : ℕ) (x : F) → value x ≡ 0 → SameUnivariate p (map value (replicate n x)) []
zeros_only value p zero x e k = refl
zeros_only value p (suc n) x e zero = ap (λ m. m % p) e
zeros_only value p (suc n) x e (suc k) = zeros_only value p n x e k

-- nor do they matter at the end of a row
pub padded : {F : Type 0} (value : F → ℕ) (p : ℕ) (xs : List F) (n : ℕ) (x : F) → value x ≡ 0 → SameUnivariate p (map value (xs ++ replicate n x)) (map value xs)
padded value p [] n x e k = zeros_only value p n x e k
padded value p (y ∷ ys) n x e zero = refl
padded value p (y ∷ ys) n x e (suc k) = padded value p ys n x e k
