-- The steps of Euclid's algorithm on two polynomials g and h in one variable, with cofactors (Cox, Little and O'Shea, "Ideals,
-- Varieties, and Algorithms", chapter 1, section 5).
use Rattle.std.specs.Prelude.{◌≡◌, ℕ, ◌+◌, ◌-◌, ◌<◌, ◌≤◌, max, [], length}
use Rattle.ffc_roots.specs.Roots.{IsCombination}
use Rattle.ffc_uni.specs.Univariate.{Coefficients, SameUnivariate, IsNormal, plus, minus, times, value_of}
use Rattle.ffc_single.specs.declared.euclid.Combination.{Combination}

-- the first polynomial less a multiple of the second
pub record IsLessMultiple (p : ℕ) (first quotient second next : Coefficients) : Type 0 where
  pub same : SameUnivariate p next (minus p first (times quotient second))
  pub short : length next ≤ max (length first) (length quotient + (length second - 1))

-- what is left of the first combination when it is divided by the second
pub record IsLeftOver {F : Type 0} (p : ℕ) (first second next : Combination F) : Type 0 where
  pub quotient : Coefficients
  pub fits : length quotient ≤ length first.value - (length second.value - 1)
  pub value : SameUnivariate p first.value (plus (times quotient second.value) next.value)
  pub lower : length next.value < length second.value
  pub a : IsLessMultiple p first.a quotient second.a next.a
  pub b : IsLessMultiple p first.b quotient second.b next.b

-- h divided by g leaves something
pub record IsFirstDivision (p : ℕ) (g h quotient rest : Coefficients) : Type 0 where
  pub division : SameUnivariate p h (plus (times quotient g) rest)
  pub lower : length rest < length g
  pub fits : length quotient ≤ length h - (length g - 1)
  pub some : 1 ≤ length rest

-- Two combinations of g and h, the second of lower degree, whose common roots are roots of both. Their cofactors are short.
pub record IsEuclid {F : Type 0} (p : ℕ) (g h : Coefficients) (first second : Combination F) : Type 0 where
  pub first_is : IsCombination p g h first.a first.b first.value
  pub second_is : IsCombination p g h second.a second.b second.value
  pub within : length first.value ≤ length g
  pub lower : length second.value < length first.value
  pub falls : second.value ≡ [] → length first.value < length g
  pub first_a : length first.a + length first.value ≤ max (length g) (length h) + 1
  pub first_b : length first.b + length first.value ≤ max (length g) (length h) + 1
  pub second_a : length second.a + length first.value ≤ max (length g) (length h) + 1
  pub second_b : length second.b + length first.value ≤ max (length g) (length h) + 1
  pub roots : (x : ℕ) → value_of p x first.value ≡ 0 → value_of p x second.value ≡ 0 → (value_of p x g ≡ 0) × (value_of p x h ≡ 0)

-- each root of g is one of h
abbrev pub HasRootsOf : ℕ → Coefficients → Coefficients → Type 0
HasRootsOf p g h = (x : ℕ) → value_of p x g ≡ 0 → value_of p x h ≡ 0

-- a combination of g and h that is not 0, of lower degree than g, whose roots are roots of both
pub record IsNextDivisor {F : Type 0} (p : ℕ) (g h : Coefficients) (next : Combination F) : Type 0 where
  pub is : IsCombination p g h next.a next.b next.value
  pub normal : IsNormal p next.value
  pub some : 1 ≤ length next.value
  pub lower : length next.value < length g
  pub short_a : length next.a ≤ max (length g) (length h)
  pub short_b : length next.b ≤ max (length g) (length h)
  pub of_first : HasRootsOf p next.value g
  pub of_second : HasRootsOf p next.value h
