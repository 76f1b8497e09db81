-- Reduction of a polynomial by the lines of a basis (Cox, Little and O'Shea, chapter 2, section 3, theorem 3): what is left is
-- the polynomial minus multiples of lines, none above its leading monomial.
use Rattle.std.specs.Prelude.{◌≡◌, ◌≢◌, ℕ, ◌<◌, ◌≤◌, ◌⊎◌, List, [], ◌∷◌, ◌++◌, length, get_or, set}
use Rattle.std.specs.declared.cmp.Ordering.{Ordering}
use Rattle.std.specs.declared.cmp.Ordering.TheVariants.{Greater}
use Rattle.ffc_field.specs.Modular.{mul_mod}
use Rattle.ffc_ring.specs.Monomial.{Monomial, IsMonomial, Divides, mono_mul}
use Rattle.ffc_ring.specs.Polynomial.{Terms, coefficient, SamePolynomial, term_product, difference, PassesDegree, PassesTerms}
use Rattle.ffc_mono.specs.Leading.{IsLeading}
use Rattle.ffc_mono.specs.Graded.{IsGradedIn}
use Rattle.ffc_basis.specs.Units.{AreInVariables, IsUpTo}
use Rattle.ffc_line.specs.Lines.{Parts, combination, AreBefore, IsPolynomial, ArePolynomials, HasMonomial, HasPart}

-- no leading monomial of the first k lines divides the monomial
abbrev pub IsIrreducibleBefore : ℕ → (Monomial → Monomial → Ordering) → List Terms → Monomial → ℕ → Type 0
IsIrreducibleBefore p cmp gs m k =
    (i : ℕ) → i < k → (c : ℕ) (n : Monomial) → IsLeading p cmp (get_or gs i []) c n → Divides n m → ⊥

-- nor does that of any line
abbrev pub IsIrreducible : ℕ → (Monomial → Monomial → Ordering) → List Terms → Monomial → Type 0
IsIrreducible p cmp gs m = IsIrreducibleBefore p cmp gs m (length gs)

-- no monomial of the polynomial is divisible by the leading monomial of a line
abbrev pub IsReduced : ℕ → (Monomial → Monomial → Ordering) → List Terms → Terms → Type 0
IsReduced p cmp gs ts = (m : Monomial) → coefficient p ts m ≢ 0 → IsIrreducible p cmp gs m

-- the monomial is at most the leading monomial of the polynomial, which is not 0
abbrev pub IsAtMostLead : ℕ → (Monomial → Monomial → Ordering) → Terms → Monomial → Type 0
IsAtMostLead p cmp ts m = (d : ℕ) × (k : Monomial) × IsLeading p cmp ts d k × (cmp m k ≢ Greater)

-- each monomial of a part times its line's leading monomial is at most the leading monomial of the polynomial
abbrev pub ArePartsAtMost : ℕ → (Monomial → Monomial → Ordering) → List Terms → Terms → Parts → Type 0
ArePartsAtMost p cmp gs ts parts =
    (i : ℕ) (m : Monomial) → HasMonomial p parts i m
    → (c : ℕ) × (n : Monomial) × IsLeading p cmp (get_or gs i []) c n × IsAtMostLead p cmp ts (mono_mul m n)

-- c*m is the multiple k*q of the leading term of line i
pub record IsStep (p : ℕ) (cmp : Monomial → Monomial → Ordering) (gs : List Terms) (c : ℕ) (m : Monomial) (i k : ℕ) (q : Monomial) : Type 0 where
  pub within : i < length gs
  pub leading : (d : ℕ) × (n : Monomial) × IsLeading p cmp (get_or gs i []) d n × (mono_mul n q ≡ m) × (mul_mod p k d ≡ c)

-- subtracting k*q times the line, or recording k*q in its part, passes a limit of polynomials
abbrev pub PassesLimit : ℕ → List Terms → Terms → Parts → ℕ → ℕ → Monomial → Type 0
PassesLimit p gs rest parts i k q =
    PassesDegree p 1024 ((k, q) ∷ []) (get_or gs i [])
    ⊎ (PassesTerms p 131072 (difference p rest (term_product k q (get_or gs i [])))
    ⊎ ((t : Terms) × HasPart parts i t × PassesTerms p 131072 (t ++ (k, q) ∷ [])))

-- q times the leading monomial of line i is a monomial of what is left, and the multiple that cancels it passes a limit
abbrev pub IsStopped : ℕ → (Monomial → Monomial → Ordering) → List Terms → Terms → Parts → ℕ → Monomial → Type 0
IsStopped p cmp gs rest parts i q =
    (m : Monomial) × (k : ℕ) × (coefficient p rest m ≢ 0) × IsStep p cmp gs (coefficient p rest m) m i k q × PassesLimit p gs rest parts i k q

-- what is left of a polynomial, and what was subtracted: polynomials within the limits, one for a line at most
pub record IsReduction (p : ℕ) (cmp : Monomial → Monomial → Ordering) (gs : List Terms) (poly rest : Terms) (parts : Parts) : Type 0 where
  pub whole : SamePolynomial p poly (rest ++ combination gs parts)
  pub before : AreBefore (length gs) parts
  pub at_most : ArePartsAtMost p cmp gs poly parts
  pub lower : (m : Monomial) → coefficient p rest m ≢ 0 → IsAtMostLead p cmp poly m
  pub left : IsPolynomial p cmp rest
  pub polynomials : ArePolynomials p cmp parts

-- the first terms are irreducible
abbrev pub AreIrreducible : ℕ → (Monomial → Monomial → Ordering) → List Terms → Terms → ℕ → Type 0
AreIrreducible p cmp gs ts place = (j : ℕ) → j < place → IsIrreducible p cmp gs (get_or ts j (0, [])).1

-- the first terms of both are the same
abbrev pub SameFirst : Terms → Terms → ℕ → Type 0
SameFirst a b place = (j : ℕ) → j < place → (j < length b) × (get_or a j (0, []) ≡ get_or b j (0, []))

-- A step cancelled the monomial at a place: from there on all are below it, and none has another variable or a higher degree
-- where the order is graded.
pub record IsCancelled (p : ℕ) (cmp : Monomial → Monomial → Ordering) (gs : List Terms) (old new : Terms) (place : ℕ) : Type 0 where
  pub monomial : IsMonomial (get_or old place (0, [])).1
  pub some : coefficient p old (get_or old place (0, [])).1 ≢ 0
  pub below : (j : ℕ) → place ≤ j → j < length new → cmp (get_or old place (0, [])).1 (get_or new j (0, [])).1 ≡ Greater
  pub up_to : (vs : List ℕ) (d : ℕ) → IsGradedIn vs cmp → AreInVariables p vs gs → IsUpTo p vs d old → IsUpTo p vs d new

-- k*q is recorded for line i
pub record IsRecorded (p : ℕ) (old new : Parts) (i k : ℕ) (q : Monomial) : Type 0 where
  pub sum : (gs : List Terms) → SamePolynomial p (combination gs new) (combination gs old ++ term_product k q (get_or gs i []))
  pub before : (n : ℕ) → i < n → AreBefore n old → AreBefore n new
  pub monomials : (j : ℕ) (m : Monomial) → HasMonomial p new j m → HasMonomial p old j m ⊎ ((j ≡ i) × (m ≡ q))

-- a polynomial is added to the part at a place
abbrev pub IsAddedAt : ℕ → Parts → Parts → ℕ → Terms → Type 0
IsAddedAt p old new place ts =
    (sum : Terms) × (new ≡ set old place ((get_or old place (0, [])).0, sum)) × SamePolynomial p sum ((get_or old place (0, [])).1 ++ ts)
