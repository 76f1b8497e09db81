-- Bounds that were counted by hand: m equations, their greatest degree, and a number below which their common roots are separated.
use Rattle.std.specs.Prelude.{◌≡◌}
use Rattle.ffc_single.specs.Bounds.{single_units}

pub record AreBounds : Type 0 where
  -- one equation of degree 2 without a root: 3^2*6 + 256 + 2
  pub no_root : single_units 1 2 0 ≡ 312
  -- with two roots that 2 separates: 3^2*6 + 6*256 + 2
  pub two_roots : single_units 1 2 3 ≡ 1592
  -- three equations of degree 3 with one common root at most: 6^2*8 + 378 + 3
  pub three_equations : single_units 3 3 0 ≡ 669
  -- two with the common roots 1, 2 and 3, which 5 separates: 5^2*8 + 18*378 + 3
  pub three_roots : single_units 2 3 6 ≡ 7007
