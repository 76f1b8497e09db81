-- The power X^p modulo a polynomial f, by repeated squaring: for each binary digit of p after the first a square, and
-- where the digit is 1 a product with X, each with its quotient and remainder modulo f (Knuth, "The Art of Computer
-- Programming", volume 2, section 4.6.3; Cohen, "A Course in Computational Algebraic Number Theory", section 1.2).
use Rattle.std.specs.Prelude.{◌≡◌, ℕ, zero, suc, ◌+◌, ◌/◌, ◌%◌, ◌^◌, ◌==◌, ◌<◌, ◌≤◌, Bool, true, false, List, [], ◌∷◌, ◌++◌, length}
use Rattle.ffc_uni.specs.Univariate.{Coefficients, SameUnivariate, indeterminate, plus, times}

-- a quotient and a remainder
abbrev pub Pair : Type 0
Pair = Coefficients × Coefficients

-- the lowest n binary digits of a number, the highest of them first
abbrev pub binary : ℕ → ℕ → List Bool
binary zero m = []
binary (suc n) m = (m / 2 ^ n % 2 == 1) ∷ binary n m

-- without the zeros in front and the first 1
abbrev pub behind_first : List Bool → List Bool
behind_first [] = []
behind_first (false ∷ ds) = behind_first ds
behind_first (true ∷ ds) = ds

-- the binary digits of an order, which is below 2^64, after the first
unfoldable pub digits_of : ℕ → List Bool
digits_of p = behind_first (binary 64 p)

-- how many pairs a chain over these digits has
abbrev pub pairs_over : List Bool → ℕ
pairs_over [] = 0
pairs_over (false ∷ ds) = 1 + pairs_over ds
pairs_over (true ∷ ds) = 2 + pairs_over ds

-- at most 126
abbrev pub pair_count : ℕ → ℕ
pair_count p = pairs_over (digits_of p)

-- a is the quotient times f, plus the remainder
abbrev pub IsDivision : ℕ → Coefficients → Coefficients → Pair → Type 0
IsDivision p f a step = SameUnivariate p a (plus (times step.0 f) step.1)

-- The steps go on from the power r over these digits.
abbrev pub IsChainFrom : ℕ → Coefficients → Coefficients → List Bool → List Pair → Type 0
IsChainFrom p f r [] [] = Unit {0}
IsChainFrom p f r [] (s ∷ steps) = ⊥
IsChainFrom p f r (d ∷ ds) [] = ⊥
IsChainFrom p f r (false ∷ ds) (s ∷ steps) = IsDivision p f (times r r) s × IsChainFrom p f s.1 ds steps
IsChainFrom p f r (true ∷ ds) (s ∷ []) = ⊥
IsChainFrom p f r (true ∷ ds) (s ∷ t ∷ steps) =
    IsDivision p f (times r r) s × IsDivision p f (times indeterminate s.1) t × IsChainFrom p f t.1 ds steps

-- the steps are those of X^p modulo f
abbrev pub IsChain : ℕ → Coefficients → List Pair → Type 0
IsChain p f steps = IsChainFrom p f indeterminate (digits_of p) steps

-- the last remainder, or r where there is no step
abbrev pub last_remainder : Coefficients → List Pair → Coefficients
last_remainder r [] = r
last_remainder r (s ∷ steps) = last_remainder s.1 steps

-- each remainder is of lower degree than f, and no quotient has more coefficients
abbrev pub AreLower : Coefficients → List Pair → Type 0
AreLower f [] = Unit {0}
AreLower f (s ∷ steps) = (length s.1 < length f) × (length s.0 ≤ length f) × AreLower f steps

-- the steps with those of one more digit
abbrev pub IsWithDigit : ℕ → Coefficients → Bool → List Pair → List Pair → Type 0
IsWithDigit p f d old new =
    (added : List Pair) × (new ≡ old ++ added) × IsChainFrom p f (last_remainder indeterminate old) (d ∷ []) added × AreLower f added
