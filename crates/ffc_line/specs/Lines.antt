-- The lines of a basis and the combinations that they are of earlier lines (Buchberger 1965; Cox, Little and O'Shea, chapter
-- 2, section 7).
--
-- Lines are numbered from 0. What is said of a line's polynomial is said of the list of the lines' polynomials.
use Rattle.std.specs.Prelude.{◌≡◌, ◌≢◌, ℕ, suc, ◌<◌, ◌≤◌, ◌⊎◌, List, [], ◌∷◌, ◌++◌, length, map, get_or}
use Rattle.std.specs.declared.cmp.Ordering.{Ordering}
use Rattle.ffc_ring.specs.Monomial.{Monomial}
use Rattle.ffc_ring.specs.Polynomial.{Terms, AreTerms, coefficient, SamePolynomial, product}
use Rattle.ffc_poly.specs.Ordered.{IsOrdered}
use Rattle.ffc_line.specs.declared.line.Line.{Line}

-- the numbers of lines, and the polynomials that these are multiplied by
abbrev pub Parts : Type 0
Parts = List (ℕ × Terms)

-- the polynomials of lines
abbrev pub polys_of : {F O : Type 0} → List (Line F O) → List Terms
polys_of ls = map (λ l. l.poly) ls

-- each line is a list of terms
abbrev pub AreLists : List Terms → Type 0
AreLists gs = (i : ℕ) → AreTerms (get_or gs i [])

-- the sum of the parts' multiples of the lines
abbrev pub combination : List Terms → Parts → Terms
combination gs [] = []
combination gs (t ∷ ts) = product t.1 (get_or gs t.0 []) ++ combination gs ts

-- each part names a line below this number
abbrev pub AreBefore : ℕ → Parts → Type 0
AreBefore n [] = Unit {0}
AreBefore n (t ∷ ts) = (t.0 < n) × AreBefore n ts

-- each part is a list of terms
abbrev pub AreTermLists : Parts → Type 0
AreTermLists [] = Unit {0}
AreTermLists (t ∷ ts) = AreTerms t.1 × AreTermLists ts

-- the terms of a polynomial within the limits, in strictly decreasing order
abbrev pub IsPolynomial : ℕ → (Monomial → Monomial → Ordering) → Terms → Type 0
IsPolynomial p cmp ts = IsOrdered p cmp 1024 ts × (length ts ≤ 131072)

-- no part is of this line
abbrev pub IsLineOfNone : ℕ → Parts → Type 0
IsLineOfNone i [] = Unit {0}
IsLineOfNone i (t ∷ ts) = (t.0 ≢ i) × IsLineOfNone i ts

-- each part is a polynomial within the limits, and there is one part of a line at most
abbrev pub ArePolynomials : ℕ → (Monomial → Monomial → Ordering) → Parts → Type 0
ArePolynomials p cmp [] = Unit {0}
ArePolynomials p cmp (t ∷ ts) = IsPolynomial p cmp t.1 × IsLineOfNone t.0 ts × ArePolynomials p cmp ts

-- the monomial occurs in a part of this line
abbrev pub HasMonomial : ℕ → Parts → ℕ → Monomial → Type 0
HasMonomial p [] i m = ⊥
HasMonomial p (t ∷ ts) i m = ((t.0 ≡ i) × (coefficient p t.1 m ≢ 0)) ⊎ HasMonomial p ts i m

-- this is a part of the line
abbrev pub HasPart : Parts → ℕ → Terms → Type 0
HasPart ts i t = (j : ℕ) × (j < length ts) × (get_or ts j (0, []) ≡ (i, t))

-- the line with this number is a generator, which has no parts, or the sum of its parts' multiples of earlier lines
abbrev pub IsLine : {F O : Type 0} → ℕ → List Terms → ℕ → Line F O → Type 0
IsLine p gs i l = AreBefore i l.parts.items × (l.parts.items ≢ [] → SamePolynomial p l.poly (combination gs l.parts.items))

-- so are these lines, which are numbered from i on
abbrev pub AreLinesFrom : {F O : Type 0} → ℕ → List Terms → ℕ → List (Line F O) → Type 0
AreLinesFrom p gs i [] = Unit {0}
AreLinesFrom p gs i (l ∷ ls) = IsLine p gs i l × AreLinesFrom p gs (suc i) ls

-- and so are all
abbrev pub AreLines : {F O : Type 0} → ℕ → List (Line F O) → Type 0
AreLines p ls = AreLinesFrom p (polys_of ls) 0 ls

-- these lines are these generators in order
abbrev pub AreGenerators : {F O : Type 0} → List (Line F O) → List Terms → Type 0
AreGenerators [] [] = Unit {0}
AreGenerators [] (g ∷ gs) = ⊥
AreGenerators (l ∷ ls) [] = ⊥
AreGenerators (l ∷ ls) (g ∷ gs) = (l.poly ≡ g) × (l.parts.items ≡ []) × AreGenerators ls gs

-- these generators are appended to the lines
abbrev pub IsAddedTo : {F O : Type 0} → List (Line F O) → List (Line F O) → List Terms → Type 0
IsAddedTo {F} {O} old new gs = (more : List (Line F O)) × (new ≡ old ++ more) × AreGenerators more gs
