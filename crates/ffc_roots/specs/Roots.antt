-- Roots of polynomials in one variable over the integers modulo p, and combinations of two polynomials (Berlekamp,
-- "Factoring polynomials over large finite fields", 1970; Bezout's identity by Euclid's algorithm: Cox, Little and O'Shea,
-- chapter 1, section 5).
use Rattle.std.specs.Prelude.{◌≡◌, ℕ, ◌<◌, ◌≤◌, List, length, All, Contains}
use Rattle.std.specs.List.Sorted.{IsStrictlyIncreasing}
use Rattle.ffc_uni.specs.Univariate.{Coefficients, SameUnivariate, plus, minus, times, product_of_roots, value_of, indeterminate}

-- x is a root of f among the residues
abbrev pub IsRoot : ℕ → Coefficients → ℕ → Type 0
IsRoot p f x = (x < p) × (value_of p x f ≡ 0)

-- the list has each root of f, and nothing else
abbrev pub AreRoots : ℕ → Coefficients → List ℕ → Type 0
AreRoots p f xs = (x : ℕ) → (Contains xs x → IsRoot p f x) × (IsRoot p f x → Contains xs x)

-- c is a*f + b*h
abbrev pub IsCombination : ℕ → Coefficients → Coefficients → Coefficients → Coefficients → Coefficients → Type 0
IsCombination p f h a b c = SameUnivariate p (plus (times a f) (times b h)) c

-- r - X
abbrev pub without_x : ℕ → Coefficients → Coefficients
without_x p r = minus p r indeterminate

-- the list is increasing, each of its numbers is a root of f, a*f + b*h is the product of the X - x, and neither cofactor has
-- more coefficients than f
pub record IsAnswer (p : ℕ) (f h a b : Coefficients) (xs : List ℕ) : Type 0 where
  pub increasing : IsStrictlyIncreasing xs
  pub roots : All (λ x. value_of p x f ≡ 0) xs
  pub identity : IsCombination p f h a b (product_of_roots p xs)
  pub short : (length a ≤ length f) × (length b ≤ length f)
