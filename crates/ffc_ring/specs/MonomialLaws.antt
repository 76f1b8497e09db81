-- The laws of monomials.
use Rattle.std.specs.Prelude.{◌≡◌, ℕ, ◌+◌, ◌-◌, ◌*◌, ◌≤◌, max, []}
use Rattle.ffc_ring.specs.Monomial.{Monomial, IsMonomial, exponent, degree, mono_mul, mono_lcm, mono_quotient, mono_value, Divides, AreCoprime}

-- equal exponents, equal monomials
abbrev pub OneMonomial : Type 0
OneMonomial = (m n : Monomial) → IsMonomial m → IsMonomial n → ((x : ℕ) → exponent m x ≡ exponent n x) → m ≡ n

-- a product is a monomial, and its exponents are the sums
abbrev pub ProductIsMonomial : Type 0
ProductIsMonomial = (m n : Monomial) → IsMonomial m → IsMonomial n → IsMonomial (mono_mul m n)

abbrev pub ProductAddsExponents : Type 0
ProductAddsExponents =
    (m n : Monomial) → IsMonomial m → IsMonomial n → (x : ℕ) → exponent (mono_mul m n) x ≡ exponent m x + exponent n x

-- a least common multiple is a monomial, and its exponents are the greater ones
abbrev pub LcmIsMonomial : Type 0
LcmIsMonomial = (m n : Monomial) → IsMonomial m → IsMonomial n → IsMonomial (mono_lcm m n)

abbrev pub LcmTakesGreater : Type 0
LcmTakesGreater =
    (m n : Monomial) → IsMonomial m → IsMonomial n → (x : ℕ) → exponent (mono_lcm m n) x ≡ max (exponent m x) (exponent n x)

abbrev pub ProductAddsDegrees : Type 0
ProductAddsDegrees = (m n : Monomial) → degree (mono_mul m n) ≡ degree m + degree n

abbrev pub ProductCommutes : Type 0
ProductCommutes = (m n : Monomial) → IsMonomial m → IsMonomial n → mono_mul m n ≡ mono_mul n m

abbrev pub ProductAssociates : Type 0
ProductAssociates =
    (m n k : Monomial) → IsMonomial m → IsMonomial n → IsMonomial k → mono_mul (mono_mul m n) k ≡ mono_mul m (mono_mul n k)

abbrev pub ProductWithOne : Type 0
ProductWithOne = (m : Monomial) → IsMonomial m → mono_mul m [] ≡ m

-- a factor of both sides may be dropped
abbrev pub ProductCancels : Type 0
ProductCancels =
    (m n k : Monomial) → IsMonomial m → IsMonomial n → IsMonomial k → mono_mul m n ≡ mono_mul m k → n ≡ k

-- a monomial divides its products, and nothing of a lower degree
abbrev pub DividesProduct : Type 0
DividesProduct = (m n : Monomial) → IsMonomial m → IsMonomial n → Divides m (mono_mul m n)

abbrev pub DivisorIsNoHigher : Type 0
DivisorIsNoHigher = (m n : Monomial) → IsMonomial m → IsMonomial n → Divides m n → degree m ≤ degree n

-- a quotient is a monomial, and times the divisor it is what was divided
abbrev pub QuotientIsMonomial : Type 0
QuotientIsMonomial = (m n : Monomial) → IsMonomial m → IsMonomial (mono_quotient m n)

abbrev pub QuotientTimesDivisor : Type 0
QuotientTimesDivisor =
    (m n : Monomial) → IsMonomial m → IsMonomial n → Divides n m → mono_mul n (mono_quotient m n) ≡ m

-- the value of a product at a point
abbrev pub ProductOfValues : Type 0
ProductOfValues =
    (point : ℕ → ℕ) (m n : Monomial) → mono_value point (mono_mul m n) ≡ mono_value point m * mono_value point n

-- the exponents and the degree of a quotient
abbrev pub QuotientSubtractsExponents : Type 0
QuotientSubtractsExponents =
    (m n : Monomial) → IsMonomial m → (x : ℕ) → exponent (mono_quotient m n) x ≡ exponent m x - exponent n x

abbrev pub QuotientSubtractsDegrees : Type 0
QuotientSubtractsDegrees =
    (m n : Monomial) → IsMonomial m → IsMonomial n → Divides n m → degree (mono_quotient m n) ≡ degree m - degree n

-- divisibility is an order
abbrev pub DividesItself : Type 0
DividesItself = (m : Monomial) → Divides m m

abbrev pub DividesThrough : Type 0
DividesThrough = (m n k : Monomial) → Divides m n → Divides n k → Divides m k

abbrev pub MutualDivisorsAreEqual : Type 0
MutualDivisorsAreEqual = (m n : Monomial) → IsMonomial m → IsMonomial n → Divides m n → Divides n m → m ≡ n

-- both monomials divide their least common multiple, and it divides each common multiple
abbrev pub FirstDividesLcm : Type 0
FirstDividesLcm = (m n : Monomial) → IsMonomial m → IsMonomial n → Divides m (mono_lcm m n)

abbrev pub SecondDividesLcm : Type 0
SecondDividesLcm = (m n : Monomial) → IsMonomial m → IsMonomial n → Divides n (mono_lcm m n)

abbrev pub LcmDividesCommonMultiples : Type 0
LcmDividesCommonMultiples =
    (m n k : Monomial) → IsMonomial m → IsMonomial n → Divides m k → Divides n k → Divides (mono_lcm m n) k

-- where no variable occurs in both, it is their product
abbrev pub CoprimeLcmIsProduct : Type 0
CoprimeLcmIsProduct = (m n : Monomial) → IsMonomial m → IsMonomial n → AreCoprime m n → mono_lcm m n ≡ mono_mul m n
