-- Polynomials over the integers modulo p, apart from any order of monomials (Cox, Little and O'Shea,
-- chapter 1, section 1).
--
-- A polynomial is a finite map from monomials to residues other than 0. It is written as any list of terms,
-- pairs of coefficient and monomial: the map has at each monomial the sum of the coefficients written for it,
-- modulo p. Two lists are the same polynomial where they have the same coefficients. So a sum is one list
-- after the other, and a product is the list of all products of two terms.
use Rattle.std.specs.Prelude.{◌≡◌, ◌≢◌, ℕ, ◌+◌, ◌-◌, ◌*◌, ◌%◌, ◌<◌, List, [], ◌∷◌, ◌++◌, length, if◌then◌else◌}
use Rattle.ffc_ring.specs.Monomial.{Monomial, IsMonomial, degree, mono_mul, mono_value, same_monomial}

-- terms of coefficient and monomial
abbrev pub Terms : Type 0
Terms = List (ℕ × Monomial)

-- each term has a monomial
abbrev pub AreTerms : Terms → Type 0
AreTerms [] = Unit {0}
AreTerms (t ∷ ts) = IsMonomial t.1 × AreTerms ts

-- the sum of the coefficients that are written for a monomial
abbrev pub written : Terms → Monomial → ℕ
written [] m = 0
written (t ∷ ts) m = (if same_monomial t.1 m then t.0 else 0) + written ts m

-- the coefficient of a monomial
abbrev pub coefficient : ℕ → Terms → Monomial → ℕ
coefficient p ts m = written ts m % p

-- both lists are the same polynomial
abbrev pub SamePolynomial : ℕ → Terms → Terms → Type 0
SamePolynomial p a b = (m : Monomial) → coefficient p a m ≡ coefficient p b m

-- the product with one term
abbrev pub term_product : ℕ → Monomial → Terms → Terms
term_product c m [] = []
term_product c m (t ∷ ts) = (c * t.0, mono_mul m t.1) ∷ term_product c m ts

-- the product: all products of two terms
abbrev pub product : Terms → Terms → Terms
product [] b = []
product (t ∷ a) b = term_product t.0 t.1 b ++ product a b

-- the product with a constant
abbrev pub scaled : ℕ → Terms → Terms
scaled c ts = term_product c [] ts

-- a - b
abbrev pub difference : ℕ → Terms → Terms → Terms
difference p a b = a ++ scaled (p - 1) b

-- the sum of the terms' values at a point, before it is taken modulo p
abbrev pub value_sum : (ℕ → ℕ) → Terms → ℕ
value_sum point [] = 0
value_sum point (t ∷ ts) = t.0 * mono_value point t.1 + value_sum point ts

-- the value at a point
abbrev pub poly_value : ℕ → (ℕ → ℕ) → Terms → ℕ
poly_value p point ts = value_sum point ts % p

-- some product of a monomial of a and a monomial of b, both with coefficients other than 0, has a total degree
-- above the limit
abbrev pub PassesDegree : ℕ → ℕ → Terms → Terms → Type 0
PassesDegree p limit a b =
    (m : Monomial) × (n : Monomial) × (coefficient p a m ≢ 0) × (coefficient p b n ≢ 0) × (limit < degree m + degree n)

-- the monomial is none of these
abbrev pub IsNoneOf : List Monomial → Monomial → Type 0
IsNoneOf [] m = Unit {0}
IsNoneOf (n ∷ ns) m = (n ≢ m) × IsNoneOf ns m

-- each of these monomials is listed once, and its coefficient is not 0
abbrev pub AreItsMonomials : ℕ → Terms → List Monomial → Type 0
AreItsMonomials p ts [] = Unit {0}
AreItsMonomials p ts (m ∷ ms) = (coefficient p ts m ≢ 0) × IsNoneOf ms m × AreItsMonomials p ts ms

-- the polynomial has more terms than the limit: so many different monomials with coefficients other than 0
abbrev pub PassesTerms : ℕ → ℕ → Terms → Type 0
PassesTerms p limit ts = (ms : List Monomial) × (limit < length ms) × AreItsMonomials p ts ms
