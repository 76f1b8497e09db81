-- S-polynomials, and bases that are closed under them (Buchberger 1965; Cox, Little and O'Shea, chapter 2, section 6,
-- definition 4, and section 9, theorem 3).
use Rattle.std.specs.Prelude.{◌≡◌, ◌≢◌, ℕ, ◌<◌, ◌≤◌, ◌⊎◌, List, [], ◌∷◌, length, get_or, take}
use Rattle.std.specs.declared.cmp.Ordering.{Ordering}
use Rattle.ffc_field.specs.Modular.{mul_mod}
use Rattle.ffc_ring.specs.Monomial.{Monomial, mono_lcm, mono_quotient}
use Rattle.ffc_ring.specs.Polynomial.{Terms, SamePolynomial, term_product, difference, PassesDegree, PassesTerms}
use Rattle.ffc_mono.specs.Leading.{IsLeading}
use Rattle.ffc_poly.specs.Ordered.{IsConstant}
use Rattle.ffc_line.specs.Lines.{Parts, combination, AreBefore, AreTermLists}
use Rattle.ffc_basis.specs.Reduction.{ArePartsAtMost, IsReduction, IsStopped}

-- Both polynomials are multiplied by terms so that their leading monomials become their least common multiple with the
-- coefficient 1, and subtracted.
abbrev pub IsSPolynomial : ℕ → (Monomial → Monomial → Ordering) → Terms → Terms → Terms → Type 0
IsSPolynomial p cmp a b s =
    (c : ℕ) × (m : Monomial) × (d : ℕ) × (n : Monomial) × IsLeading p cmp a c m × IsLeading p cmp b d n
    × (k : ℕ) × (l : ℕ) × (mul_mod p k c ≡ 1) × (mul_mod p l d ≡ 1)
    × SamePolynomial p s (difference p (term_product k (mono_quotient (mono_lcm m n) m) a) (term_product l (mono_quotient (mono_lcm m n) n) b))

-- The polynomial is 0, or a sum of multiples of lines other than 0 in which no multiple's leading monomial is above its own.
abbrev pub ReducesToZero : ℕ → (Monomial → Monomial → Ordering) → List Terms → Terms → Type 0
ReducesToZero p cmp gs ts =
    (parts : Parts) × AreBefore (length gs) parts × ArePartsAtMost p cmp gs ts parts × SamePolynomial p ts (combination gs parts)
    × AreTermLists parts

-- each S-polynomial of these two lines reduces to zero
abbrev pub IsPairClosed : ℕ → (Monomial → Monomial → Ordering) → List Terms → ℕ → ℕ → Type 0
IsPairClosed p cmp gs i j =
    (s : Terms) → IsSPolynomial p cmp (get_or gs i []) (get_or gs j []) s → ReducesToZero p cmp gs s

-- so does that of each two lines
abbrev pub IsClosed : ℕ → (Monomial → Monomial → Ordering) → List Terms → Type 0
IsClosed p cmp gs = (i j : ℕ) → i < length gs → j < length gs → IsPairClosed p cmp gs i j

-- The S-polynomial of two polynomials passes a limit of polynomials: one of the two multiples has too high a degree, or the
-- difference of both has too many terms.
abbrev pub PassesSPolynomial : ℕ → (Monomial → Monomial → Ordering) → Terms → Terms → Type 0
PassesSPolynomial p cmp a b =
    (c : ℕ) × (m : Monomial) × (d : ℕ) × (n : Monomial) × IsLeading p cmp a c m × IsLeading p cmp b d n
    × (PassesDegree p 1024 ((1, mono_quotient (mono_lcm m n) m) ∷ []) a
    ⊎ (PassesDegree p 1024 ((1, mono_quotient (mono_lcm m n) n) ∷ []) b
    ⊎ ((k : ℕ) × (l : ℕ) × (mul_mod p k c ≡ 1) × (mul_mod p l d ≡ 1)
    × PassesTerms p 131072 (difference p (term_product k (mono_quotient (mono_lcm m n) m) a) (term_product l (mono_quotient (mono_lcm m n) n) b)))))

-- that of these two lines does, or a reduction of it by the lines stops at a limit
abbrev pub IsPairOver : ℕ → (Monomial → Monomial → Ordering) → List Terms → ℕ → ℕ → Type 0
IsPairOver p cmp gs i j =
    PassesSPolynomial p cmp (get_or gs i []) (get_or gs j [])
    ⊎ ((s : Terms) × (rest : Terms) × (parts : Parts) × (line : ℕ) × (q : Monomial) × IsSPolynomial p cmp (get_or gs i []) (get_or gs j []) s
    × IsReduction p cmp gs s rest parts × IsStopped p cmp gs rest parts line q)

-- that is so with some of the lines, the first ones
abbrev pub IsPairOverByFirst : ℕ → (Monomial → Monomial → Ordering) → List Terms → ℕ → ℕ → Type 0
IsPairOverByFirst p cmp gs i j = (n : ℕ) × (n ≤ length gs) × (i < n) × (j < n) × IsPairOver p cmp (take n gs) i j

-- and of each of these pairs
abbrev pub AreOver : ℕ → (Monomial → Monomial → Ordering) → List Terms → List (ℕ × ℕ) → Type 0
AreOver p cmp gs [] = Unit {0}
AreOver p cmp gs (t ∷ ts) = IsPairOverByFirst p cmp gs t.0 t.1 × AreOver p cmp gs ts

-- the pair is one of these, either way round
abbrev pub IsListed : List (ℕ × ℕ) → ℕ → ℕ → Type 0
IsListed [] i j = ⊥
IsListed (t ∷ ts) i j = ((t.0 ≡ i) × (t.1 ≡ j)) ⊎ (((t.0 ≡ j) × (t.1 ≡ i)) ⊎ IsListed ts i j)

-- there are pairs at which a limit was passed, and each other S-polynomial reduces to zero
pub record IsSetAside (p : ℕ) (cmp : Monomial → Monomial → Ordering) (gs : List Terms) (pairs : List (ℕ × ℕ)) : Type 0 where
  pub some : pairs ≢ []
  pub over : AreOver p cmp gs pairs
  pub others : (i j : ℕ) → i < length gs → j < length gs → IsListed pairs i j ⊎ IsPairClosed p cmp gs i j

-- the line is a constant other than 0
abbrev pub IsConstantLine : ℕ → List Terms → ℕ → Type 0
IsConstantLine p gs i = (i < length gs) × (get_or gs i [] ≢ []) × IsConstant p (get_or gs i [])
