-- The test for equal polynomials in one variable: coefficient by coefficient. Its laws.
use Rattle.std.specs.Prelude.{Bool, ◌==◌}
use Rattle.std.specs.Cmp.{IsEquivalence, nat_eq_equiv}
use Rattle.std.specs.Cmp.Lexicographic.{pointwise, lists_equiv}
use Rattle.ffc_uni.specs.Univariate.{Coefficients}

abbrev pub same_coefficients : Coefficients → Coefficients → Bool
same_coefficients = pointwise ◌==◌

pub same_coefficients_equivalence : IsEquivalence same_coefficients
same_coefficients_equivalence = lists_equiv nat_eq_equiv
