-- Elements of a field as lists of residues.
use Rattle.std.proofs.Common.{◌≡◌, ℕ, zero, suc, ◌-◌, ◌<◌, ◌≤◌, List, [], ◌∷◌, length, map, get_or, refl, sym, ap, ap₂, ◌∙◌, arith}
use Rattle.std.specs.List.{slice_index}
use Rattle.ffc_uni.specs.Univariate.{IsNormal, coefficient_at}

module _ {F : Type 0} (value : F → ℕ) where
  pub length-residues : (xs : List F) → length (map value xs) ≡ length xs
  length-residues [] = refl
  length-residues (x ∷ xs) = ap suc (length-residues xs)

  -- the residue at a place is that of the element there
  pub residue_at : (xs : List F) (k : ℕ) (x : F) → k < length xs → x ≡ get_or xs k x → slice_index (map value xs) k ≡ value x
  residue_at [] k x within e = absurd (omega arith)
  residue_at (y ∷ xs) zero x within e = ap value (sym e)
  residue_at (y ∷ xs) (suc k) x within e = residue_at xs k x (omega arith) e

  -- a list of two elements
  pub two_residues : (xs : List F) (x y : F) → length xs ≡ 2 → x ≡ get_or xs 0 x → y ≡ get_or xs 1 y → map value xs ≡ value x ∷ value y ∷ []
  two_residues [] x y long first second = absurd (omega arith)
  two_residues (a ∷ []) x y long first second = absurd (omega arith)
  two_residues (a ∷ b ∷ []) x y long first second = ap₂ (λ (v w : F). value v ∷ value w ∷ []) (sym first) (sym second)
  two_residues (a ∷ b ∷ d ∷ xs) x y long first second = absurd (omega arith)

  pub coefficient_there : (xs : List F) (k : ℕ) (x : F) → k < length xs → x ≡ get_or xs k x → coefficient_at (map value xs) k ≡ value x
  coefficient_there [] k x within e = absurd (omega arith)
  coefficient_there (y ∷ xs) zero x within e = ap value (sym e)
  coefficient_there (y ∷ xs) (suc k) x within e = coefficient_there xs k x (omega arith) e

  -- the last residue of a normal list is not 0
  pub leading_nonzero : (p : ℕ) (xs : List F) (x : F) → 1 ≤ length xs → x ≡ get_or xs (length xs - 1) x → IsNormal p (map value xs) → value x ≡ 0 → ⊥
  leading_nonzero p [] x some e normal none = absurd (omega arith)
  leading_nonzero p (y ∷ []) x some e normal none = normal.1 (ap value (sym e) ∙ none)
  leading_nonzero p (y ∷ z ∷ xs) x some e normal none =
      let shorter : length (y ∷ z ∷ xs) - 1 ≡ suc (length (z ∷ xs) - 1) = omega arith in
      leading_nonzero p (z ∷ xs) x (omega arith) (e ∙ ap (λ k. get_or (y ∷ z ∷ xs) k x) shorter) normal.1 none

  pub some_residues : (xs : List F) (l : List ℕ) → map value xs ≡ l → (l ≡ [] → ⊥) → 1 ≤ length xs
  some_residues [] l same some = absurd (some (sym same))
  some_residues (x ∷ xs) l same some = omega arith
