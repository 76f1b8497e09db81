-- Ideals of polynomials, and Buchberger's criterion (Buchberger 1965; Cox, Little and O'Shea, chapter 1, section 4,
-- definition 1, and chapter 2, section 9, theorem 3).
use Rattle.std.specs.Prelude.{◌≡◌, ℕ, ◌<◌, ◌⊎◌, List, [], ◌∷◌, ◌++◌, length, get_or}
use Rattle.std.specs.declared.cmp.Ordering.{Ordering}
use Rattle.ffc_field.specs.Modular.{IsPrime}
use Rattle.ffc_ring.specs.Monomial.{Monomial, Divides}
use Rattle.ffc_ring.specs.Polynomial.{Terms, AreTerms, coefficient, SamePolynomial, product}
use Rattle.ffc_mono.specs.MonomialOrder.{IsMonomialOrder}
use Rattle.ffc_mono.specs.Leading.{IsLeading}
use Rattle.ffc_line.specs.Lines.{AreLists}
use Rattle.ffc_basis.specs.Completion.{IsClosed, IsConstantLine}

-- each is a list of terms
abbrev pub AreAllTerms : List Terms → Type 0
AreAllTerms [] = Unit {0}
AreAllTerms (q ∷ qs) = AreTerms q × AreAllTerms qs

-- the sum of the products of each multiplier and the generator at its place
abbrev pub sum_of_products : List Terms → List Terms → Terms
sum_of_products [] gs = []
sum_of_products (q ∷ qs) [] = []
sum_of_products (q ∷ qs) (g ∷ gs) = product q g ++ sum_of_products qs gs

-- The polynomial is in the ideal of the generators: it is the sum of products of each generator with some polynomial, of any
-- degree and in any variables.
abbrev pub Ideal : ℕ → List Terms → Terms → Type 0
Ideal p gens f =
    (qs : List Terms) × (length qs ≡ length gens) × AreAllTerms qs × SamePolynomial p f (sum_of_products qs gens)

-- the polynomial 1
abbrev pub one : Terms
one = (1, []) ∷ []

-- the leading monomial of a line divides the monomial
abbrev pub IsLedByLine : ℕ → (Monomial → Monomial → Ordering) → List Terms → Monomial → Type 0
IsLedByLine p cmp gs m =
    (i : ℕ) × (i < length gs) × (c : ℕ) × (n : Monomial) × IsLeading p cmp (get_or gs i []) c n × Divides n m

-- Buchberger's criterion: where every S-polynomial of the lines reduces to zero, the leading monomial of each nonzero member of
-- their ideal is divisible by the leading monomial of a line. Lines may be 0.
abbrev pub BuchbergersCriterion : Type 0
BuchbergersCriterion =
    (p : ℕ) → IsPrime p → (cmp : Monomial → Monomial → Ordering) → IsMonomialOrder cmp
    → (gs : List Terms) → AreLists gs → IsClosed p cmp gs
    → (f : Terms) → Ideal p gs f → (c : ℕ) (m : Monomial) → IsLeading p cmp f c m → IsLedByLine p cmp gs m

-- so 1 is no sum of polynomial multiples of such lines, unless one of them is a constant other than 0
abbrev pub ClosedWithoutConstant : Type 0
ClosedWithoutConstant =
    (p : ℕ) → IsPrime p → (cmp : Monomial → Monomial → Ordering) → IsMonomialOrder cmp
    → (gs : List Terms) → AreLists gs → IsClosed p cmp gs → ((i : ℕ) → IsConstantLine p gs i → ⊥)
    → Ideal p gs one → ⊥

-- a polynomial has a leading term or is 0
abbrev pub LeadingOrZero : Type 0
LeadingOrZero =
    (p : ℕ) (cmp : Monomial → Monomial → Ordering) → IsMonomialOrder cmp → (ts : Terms) → AreTerms ts
    → ((c : ℕ) × (m : Monomial) × IsLeading p cmp ts c m) ⊎ ((m : Monomial) → coefficient p ts m ≡ 0)
