-- Laws of the monomials up to a degree.
use Rattle.std.specs.Prelude.{◌≡◌, ℕ, ◌+◌, ◌≤◌, List, All, Contains, length}
use Rattle.std.specs.List.Sorted.{IsStrictlyIncreasing}
use Rattle.ffc_field.specs.Binomial.{choose}
use Rattle.ffc_ring.specs.Monomial.{Monomial, IsMonomial, degree, mono_mul}
use Rattle.ffc_ring.specs.Counting.{IsIn}
use Rattle.ffc_bounds.specs.Monomials.{monomials}

-- a monomial in some variables of at most a degree
pub record IsUpTo (d : ℕ) (xs : List ℕ) (m : Monomial) : Type 0 where
  pub monomial : IsMonomial m
  pub variables : IsIn xs m
  pub low : degree m ≤ d

-- each of them is a monomial in the variables, of at most that degree
abbrev pub MonomialsAreUpTo : Type 0
MonomialsAreUpTo = (d : ℕ) (xs : List ℕ) → All (IsUpTo d xs) (monomials d xs)

-- and each such monomial is there
abbrev pub MonomialsAreAll : Type 0
MonomialsAreAll = (d : ℕ) (xs : List ℕ) → IsStrictlyIncreasing xs → (m : Monomial) → IsUpTo d xs m → Contains (monomials d xs) m

-- with v variables there are (d + v) choose v
abbrev pub MonomialsAreCounted : Type 0
MonomialsAreCounted = (d : ℕ) (xs : List ℕ) → length (monomials d xs) ≡ choose (d + length xs) (length xs)

-- the product of two is there where their degrees are within the degree
abbrev pub ProductsAreMonomials : Type 0
ProductsAreMonomials =
    (d a b : ℕ) (xs : List ℕ) → a + b ≤ d → (m n : Monomial) → Contains (monomials a xs) m → Contains (monomials b xs) n
    → Contains (monomials d xs) (mono_mul m n)
