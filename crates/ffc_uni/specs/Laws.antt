-- The laws of polynomials in one variable, and of chains.
use Rattle.std.specs.Prelude.{◌≡◌, ℕ, ◌<◌, ◌≤◌}
use Rattle.std.specs.Prelude.{List, ◌++◌}
use Rattle.ffc_field.specs.Modular.{add_mod, mul_mod}
use Rattle.ffc_ring.specs.Polynomial.{SamePolynomial, product, poly_value}
use Rattle.ffc_uni.specs.Univariate.{Coefficients, SameUnivariate, IsNormal, indeterminate, plus, times, value_of, terms_in}
use Rattle.ffc_uni.specs.Chains.{Pair, IsChain, last_remainder, pair_count}

-- there is one normal list of each polynomial
abbrev pub OneNormal : Type 0
OneNormal = (p : ℕ) (a b : Coefficients) → IsNormal p a → IsNormal p b → SameUnivariate p a b → a ≡ b

-- the value of a sum and of a product
abbrev pub SumOfValues : Type 0
SumOfValues = (p x : ℕ) (a b : Coefficients) → value_of p x (plus a b) ≡ add_mod p (value_of p x a) (value_of p x b)

abbrev pub ProductOfValues : Type 0
ProductOfValues = (p x : ℕ) (a b : Coefficients) → value_of p x (times a b) ≡ mul_mod p (value_of p x a) (value_of p x b)

-- the value belongs to the polynomial
abbrev pub OneValue : Type 0
OneValue = (p x : ℕ) (a b : Coefficients) → SameUnivariate p a b → value_of p x a ≡ value_of p x b

-- sums and products of the same polynomials are the same
abbrev pub SameSums : Type 0
SameSums = (p : ℕ) (a b c d : Coefficients) → SameUnivariate p a b → SameUnivariate p c d → SameUnivariate p (plus a c) (plus b d)

abbrev pub SameProducts : Type 0
SameProducts = (p : ℕ) (a b c d : Coefficients) → SameUnivariate p a b → SameUnivariate p c d → SameUnivariate p (times a c) (times b d)

-- In many variables, with X as the variable v, these are the polynomials of the ring.
abbrev pub SameInRing : Type 0
SameInRing = (p v : ℕ) (a b : Coefficients) → SameUnivariate p a b → SamePolynomial p (terms_in v a) (terms_in v b)

abbrev pub SameOutOfRing : Type 0
SameOutOfRing = (p v : ℕ) (a b : Coefficients) → SamePolynomial p (terms_in v a) (terms_in v b) → SameUnivariate p a b

abbrev pub SumInRing : Type 0
SumInRing = (p v : ℕ) (a b : Coefficients) → SamePolynomial p (terms_in v (plus a b)) (terms_in v a ++ terms_in v b)

abbrev pub ProductInRing : Type 0
ProductInRing = (p v : ℕ) (a b : Coefficients) → SamePolynomial p (terms_in v (times a b)) (product (terms_in v a) (terms_in v b))

abbrev pub ValueInRing : Type 0
ValueInRing = (p v : ℕ) (point : ℕ → ℕ) (a : Coefficients) → poly_value p point (terms_in v a) ≡ value_of p (point v) a

-- at each zero of f among the residues the last remainder of a chain has the zero as its value
abbrev pub ZerosOfChains : ℕ → Type 0
ZerosOfChains p = (f : Coefficients) (steps : List Pair) (x : ℕ) → x < p → IsChain p f steps → value_of p x f ≡ 0 → value_of p x (last_remainder indeterminate steps) ≡ x

-- a chain has few pairs
abbrev pub FewPairs : Type 0
FewPairs = (p : ℕ) → pair_count p ≤ 126
