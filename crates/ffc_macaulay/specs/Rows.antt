-- Matrices whose size was counted by hand.
use Rattle.std.specs.Prelude.{◌≡◌, [], ◌∷◌}
use Rattle.ffc_bounds.specs.Monomials.{monomials, columns, rows}

pub record AreSizes : Type 0 where
  -- 1, x, x^2, y, x y, y^2
  pub two_variables : monomials 2 (0 ∷ 1 ∷ []) ≡ [] ∷ ((0, 1) ∷ []) ∷ ((0, 2) ∷ []) ∷ ((1, 1) ∷ []) ∷ ((0, 1) ∷ (1, 1) ∷ []) ∷ ((1, 2) ∷ []) ∷ []
  pub cubic : columns 3 (4 ∷ 7 ∷ []) ≡ 10
  pub constants : columns 0 (0 ∷ 1 ∷ 2 ∷ []) ≡ 1
  pub no_variables : columns 5 [] ≡ 1
  pub one_variable : columns 5 (3 ∷ []) ≡ 6
  -- generators of degrees 2 and 1: the first times 1, the second times 1, x and y
  pub product_with_zero : rows 2 (0 ∷ 1 ∷ []) (2 ∷ 1 ∷ []) ≡ 4
