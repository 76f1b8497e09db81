-- The test for equal polynomials in one variable decides whether their lists are equal.
use Rattle.std.proofs.Common.{◌≡◌, ℕ, ◌↔◌, Bool, true, ◌==◌, ◌&&◌, eqb, map, List, [], ◌∷◌, IsTrue, refl, ap₂, eqb-true, eq-eqb}
use Rattle.std.proofs.lemmas.Bool.Decides.{same_from_decides, Decides-eqb}
use Rattle.std.specs.Bool.{Decides}
use Rattle.std.specs.Cmp.Lexicographic.{pointwise, pointwise_decides}
use Rattle.ffc_uni.specs.Univariate.{Coefficients}
use Rattle.ffc_uni.specs.Equality.{same_coefficients}

module _ {F : Type 0} (value : F → ℕ) (test : F → F → Bool) (is : (x y : F) → IsTrue (test x y) ↔ (value x ≡ value y)) where
  -- the test of the elements is the test of their residues
  pub pointwise-is_same : (a b : List F) → pointwise test a b ≡ same_coefficients (map value a) (map value b)
  pointwise-is_same [] [] = refl
  pointwise-is_same [] (y ∷ b) = refl
  pointwise-is_same (x ∷ a) [] = refl
  pointwise-is_same (x ∷ a) (y ∷ b) =
      ap₂ (λ s t. s && t)
      (same_from_decides (test x y) (eqb (value x) (value y)) (is x y) (Decides-eqb (value x) (value y)))
      (pointwise-is_same a b)

same_coefficient-decides : (x y : ℕ) → ((x == y) ≡ true → x ≡ y) × (x ≡ y → (x == y) ≡ true)
same_coefficient-decides x y = (eqb-true x y, eq-eqb x y)

pub same_coefficients-decides : (a b : Coefficients) → Decides (same_coefficients a b) (a ≡ b)
same_coefficients-decides = pointwise_decides same_coefficient-decides
