-- Divisors of polynomials in one variable over the integers modulo p, common ones with Bezout's identity (Cox, Little and
-- O'Shea, chapter 1, section 5), and the polynomial X^p - X, whose roots are all residues (Lidl and Niederreiter, "Finite
-- Fields", chapter 2, section 1).
use Rattle.std.specs.Prelude.{ℕ, [], ◌∷◌}
use Rattle.ffc_uni.specs.Rows.{shifted}
use Rattle.ffc_uni.specs.Univariate.{Coefficients, SameUnivariate, indeterminate, minus, plus, times}
use Rattle.ffc_roots.specs.Roots.{IsCombination}
use Rattle.ffc_roots.specs.declared.bezout.Combination.{Combination}

-- f is a multiple of g
abbrev pub IsDivisor : ℕ → Coefficients → Coefficients → Type 0
IsDivisor p g f = (q : Coefficients) × SameUnivariate p f (times q g)

-- X^p - X
unfoldable pub field_polynomial : ℕ → Coefficients
field_polynomial p = minus p (shifted p (1 ∷ [])) indeterminate

-- g is a combination of f and h, in which h is multiplied by b
abbrev pub IsBezout : ℕ → Coefficients → Coefficients → Coefficients → Coefficients → Type 0
IsBezout p f h b g = (a : Coefficients) × IsCombination p f h a b g

-- g is such a combination, and divides both
pub record IsCommonDivisor (p : ℕ) (f h b g : Coefficients) : Type 0 where
  pub bezout : IsBezout p f h b g
  pub of_first : IsDivisor p g f
  pub of_second : IsDivisor p g h

-- what is left of a combination when it is divided by another one
pub record IsLeftOver {F : Type 0} (p : ℕ) (first second next : Combination F) : Type 0 where
  pub quotient : Coefficients
  pub value : SameUnivariate p first.value (plus (times quotient second.value) next.value)
  pub cofactor : SameUnivariate p next.b (minus p first.b (times quotient second.b))
