-- The laws of polynomials.
use Rattle.std.specs.Prelude.{◌≡◌, ◌≢◌, ℕ, ◌<◌, ◌++◌, [], ◌∷◌}
use Rattle.ffc_field.specs.Modular.{add_mod, sub_mod, mul_mod}
use Rattle.ffc_ring.specs.Monomial.{Monomial, IsMonomial, mono_mul}
use Rattle.ffc_ring.specs.Polynomial.{Terms, AreTerms, coefficient, SamePolynomial, term_product, product, scaled, difference, poly_value}

-- coefficients of sums, differences and multiples
abbrev pub SumAddsCoefficients : Type 0
SumAddsCoefficients =
    (p : ℕ) (a b : Terms) (m : Monomial) → coefficient p (a ++ b) m ≡ add_mod p (coefficient p a m) (coefficient p b m)

abbrev pub DifferenceSubtractsCoefficients : Type 0
DifferenceSubtractsCoefficients =
    (p : ℕ) → 0 < p → (a b : Terms) (m : Monomial) → coefficient p (difference p a b) m ≡ sub_mod p (coefficient p a m) (coefficient p b m)

abbrev pub ScaledMultipliesCoefficients : Type 0
ScaledMultipliesCoefficients =
    (p c : ℕ) (a : Terms) (m : Monomial) → coefficient p (scaled c a) m ≡ mul_mod p c (coefficient p a m)

-- the value at a point of a sum, a difference and a product
abbrev pub SumAtPoint : Type 0
SumAtPoint =
    (p : ℕ) (point : ℕ → ℕ) (a b : Terms) → poly_value p point (a ++ b) ≡ add_mod p (poly_value p point a) (poly_value p point b)

abbrev pub DifferenceAtPoint : Type 0
DifferenceAtPoint =
    (p : ℕ) → 0 < p → (point : ℕ → ℕ) (a b : Terms) → poly_value p point (difference p a b) ≡ sub_mod p (poly_value p point a) (poly_value p point b)

abbrev pub ProductAtPoint : Type 0
ProductAtPoint =
    (p : ℕ) (point : ℕ → ℕ) (a b : Terms) → poly_value p point (product a b) ≡ mul_mod p (poly_value p point a) (poly_value p point b)

-- one polynomial has one value
abbrev pub OneValue : Type 0
OneValue = (p : ℕ) (point : ℕ → ℕ) (a b : Terms) → SamePolynomial p a b → poly_value p point a ≡ poly_value p point b

-- sums and products of the same polynomials are the same
abbrev pub SameSums : Type 0
SameSums = (p : ℕ) (a b c d : Terms) → SamePolynomial p a b → SamePolynomial p c d → SamePolynomial p (a ++ c) (b ++ d)

abbrev pub SameProducts : Type 0
SameProducts =
    (p : ℕ) (a b c d : Terms) → SamePolynomial p a b → SamePolynomial p c d → SamePolynomial p (product a c) (product b d)

-- sums and products commute and associate, a product with a sum is a sum of products, and 1 is 1
abbrev pub SumCommutes : Type 0
SumCommutes = (p : ℕ) (a b : Terms) → SamePolynomial p (a ++ b) (b ++ a)

abbrev pub ProductCommutes : Type 0
ProductCommutes = (p : ℕ) (a b : Terms) → AreTerms a → AreTerms b → SamePolynomial p (product a b) (product b a)

abbrev pub ProductAssociates : Type 0
ProductAssociates =
    (p : ℕ) (a b c : Terms) → AreTerms a → AreTerms b → AreTerms c
    → SamePolynomial p (product (product a b) c) (product a (product b c))

abbrev pub ProductDistributes : Type 0
ProductDistributes = (p : ℕ) (a b c : Terms) → SamePolynomial p (product (a ++ b) c) (product a c ++ product b c)

abbrev pub ProductDistributesFromLeft : Type 0
ProductDistributesFromLeft = (p : ℕ) (a b c : Terms) → SamePolynomial p (product a (b ++ c)) (product a b ++ product a c)

abbrev pub ProductWithOne : Type 0
ProductWithOne = (p : ℕ) (a : Terms) → SamePolynomial p (product ((1, []) ∷ []) a) a

-- the coefficient of a shifted monomial in a multiple by a term
abbrev pub MultipleShiftsCoefficients : Type 0
MultipleShiftsCoefficients =
    (p c : ℕ) (m n : Monomial) (a : Terms) → IsMonomial m → IsMonomial n → AreTerms a
    → coefficient p (term_product c m a) (mono_mul m n) ≡ mul_mod p c (coefficient p a n)

-- a multiple by a term has no other monomials
abbrev pub MultipleHasShiftedMonomials : Type 0
MultipleHasShiftedMonomials =
    (p c : ℕ) (m k : Monomial) (a : Terms) → IsMonomial m → AreTerms a → coefficient p (term_product c m a) k ≢ 0
    → (n : Monomial) × IsMonomial n × (coefficient p a n ≢ 0) × (k ≡ mono_mul m n)
