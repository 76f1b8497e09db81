-- Representations of S-polynomials below the least common multiple of the two leading monomials (Cox, Little and O'Shea, chapter
-- 2, section 9, definition 5 and theorem 6).
use Rattle.std.specs.Prelude.{◌≡◌, ℕ, ◌<◌, List, [], length, get_or}
use Rattle.std.specs.declared.cmp.Ordering.{Ordering}
use Rattle.std.specs.declared.cmp.Ordering.TheVariants.{Greater}
use Rattle.ffc_ring.specs.Monomial.{Monomial, mono_mul, mono_lcm}
use Rattle.ffc_ring.specs.Polynomial.{Terms, SamePolynomial}
use Rattle.ffc_mono.specs.Leading.{IsLeading}
use Rattle.ffc_basis.specs.Completion.{IsSPolynomial}
use Rattle.ffc_line.specs.Lines.{Parts, combination, AreBefore, AreTermLists, HasMonomial}

-- each monomial of a part times its line's leading monomial is below this monomial
abbrev pub ArePartsBelow : ℕ → (Monomial → Monomial → Ordering) → List Terms → Monomial → Parts → Type 0
ArePartsBelow p cmp gs top parts =
    (i : ℕ) (m : Monomial) → HasMonomial p parts i m
    → (c : ℕ) × (n : Monomial) × IsLeading p cmp (get_or gs i []) c n × (cmp top (mono_mul m n) ≡ Greater)

-- the polynomial is a sum of multiples of lines whose leading monomials are below this one
abbrev pub IsSumBelow : ℕ → (Monomial → Monomial → Ordering) → List Terms → Monomial → Terms → Type 0
IsSumBelow p cmp gs top ts =
    (parts : Parts) × AreBefore (length gs) parts × ArePartsBelow p cmp gs top parts × SamePolynomial p ts (combination gs parts)
    × AreTermLists parts

-- each S-polynomial of these two lines is such a sum below the least common multiple of their leading monomials
abbrev pub IsPairRepresented : ℕ → (Monomial → Monomial → Ordering) → List Terms → ℕ → ℕ → Type 0
IsPairRepresented p cmp gs i j =
    (c : ℕ) (m : Monomial) (d : ℕ) (n : Monomial) → IsLeading p cmp (get_or gs i []) c m → IsLeading p cmp (get_or gs j []) d n
    → (s : Terms) → IsSPolynomial p cmp (get_or gs i []) (get_or gs j []) s → IsSumBelow p cmp gs (mono_lcm m n) s

-- so are those of both ways round
abbrev pub AreBothRepresented : ℕ → (Monomial → Monomial → Ordering) → List Terms → ℕ → ℕ → Type 0
AreBothRepresented p cmp gs i j = IsPairRepresented p cmp gs i j × IsPairRepresented p cmp gs j i

-- so are those of each two lines
abbrev pub AreAllRepresented : ℕ → (Monomial → Monomial → Ordering) → List Terms → Type 0
AreAllRepresented p cmp gs = (i j : ℕ) → i < length gs → j < length gs → IsPairRepresented p cmp gs i j
