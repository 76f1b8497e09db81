-- Polynomials in one variable X over the integers modulo p (Cox, Little and O'Shea, "Ideals, Varieties, and
-- Algorithms", chapter 1, section 5).
--
-- A polynomial is written as the list of its coefficients from the lowest; a coefficient past the end is 0. Two lists
-- are the same polynomial where they have the same coefficients modulo p.
use Rattle.std.specs.Prelude.{◌≡◌, ◌≢◌, ℕ, zero, suc, ◌+◌, ◌-◌, ◌*◌, ◌%◌, ◌<◌, Bool, true, false, List, [], ◌∷◌, map}
use Rattle.ffc_ring.specs.Monomial.{Monomial}
use Rattle.ffc_ring.specs.Polynomial.{Terms}

abbrev pub Coefficients : Type 0
Coefficients = List ℕ

-- the coefficient of X^k, as it is written
abbrev pub coefficient_at : Coefficients → ℕ → ℕ
coefficient_at [] k = 0
coefficient_at (c ∷ cs) zero = c
coefficient_at (c ∷ cs) (suc k) = coefficient_at cs k

-- both lists are the same polynomial
abbrev pub SameUnivariate : ℕ → Coefficients → Coefficients → Type 0
SameUnivariate p a b = (k : ℕ) → coefficient_at a k % p ≡ coefficient_at b k % p

-- The coefficients are residues, and the last is not 0: of each polynomial there is one such list. The polynomial 0 is
-- the empty one, and another one's degree is one less than the length.
abbrev pub IsNormal : ℕ → Coefficients → Type 0
IsNormal p [] = Unit {0}
IsNormal p (c ∷ []) = (c < p) × (c ≢ 0)
IsNormal p (c ∷ d ∷ cs) = (c < p) × IsNormal p (d ∷ cs)

-- the polynomial X
abbrev pub indeterminate : Coefficients
indeterminate = 0 ∷ 1 ∷ []

-- the sum, coefficient by coefficient
abbrev pub plus : Coefficients → Coefficients → Coefficients
plus [] b = b
plus (x ∷ a) [] = x ∷ a
plus (x ∷ a) (y ∷ b) = (x + y) ∷ plus a b

-- the product with a constant
abbrev pub multiple : ℕ → Coefficients → Coefficients
multiple c a = map (λ x. c * x) a

-- the difference
abbrev pub minus : ℕ → Coefficients → Coefficients → Coefficients
minus p a b = plus a (multiple (p - 1) b)

-- the product: that with the lowest coefficient, and X times that with the rest
abbrev pub times : Coefficients → Coefficients → Coefficients
times [] b = []
times (x ∷ a) b = plus (multiple x b) (0 ∷ times a b)

-- the product of n factors a
abbrev pub raised : Coefficients → ℕ → Coefficients
raised a zero = 1 ∷ []
raised a (suc n) = times a (raised a n)

-- the square of a power, and where one more factor is wanted the product with it
abbrev pub with_factor : Coefficients → Bool → Coefficients → Coefficients
with_factor a false power = times power power
with_factor a true power = times a (times power power)

-- r is a modulo f: a is a multiple of f plus r. (That r is of lower degree is stated beside it where it holds.)
abbrev pub IsRemainder : ℕ → Coefficients → Coefficients → Coefficients → Type 0
IsRemainder p f a r = (q : Coefficients) × SameUnivariate p a (plus (times q f) r)

-- the product of the X - a for residues a
abbrev pub product_of_roots : ℕ → List ℕ → Coefficients
product_of_roots p [] = 1 ∷ []
product_of_roots p (a ∷ rest) = times ((p - a) ∷ 1 ∷ []) (product_of_roots p rest)

-- the sum of the terms' values at x, before it is taken modulo p
abbrev pub sum_at : ℕ → Coefficients → ℕ
sum_at x [] = 0
sum_at x (c ∷ cs) = c + x * sum_at x cs

-- the value at x
abbrev pub value_of : ℕ → ℕ → Coefficients → ℕ
value_of p x a = sum_at x a % p

-- As a polynomial in many variables, where X is the variable v.

-- the monomial v^k
abbrev pub power_of : ℕ → ℕ → Monomial
power_of v zero = []
power_of v (suc k) = (v, suc k) ∷ []

abbrev pub terms_from : ℕ → ℕ → Coefficients → Terms
terms_from v k [] = []
terms_from v k (c ∷ cs) = (c, power_of v k) ∷ terms_from v (suc k) cs

abbrev pub terms_in : ℕ → Coefficients → Terms
terms_in v a = terms_from v 0 a
