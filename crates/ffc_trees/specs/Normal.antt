-- One list of terms for each polynomial, but for their order: different monomials, each with a coefficient from 1 to p - 1.
-- So the number of terms and the degree of a polynomial are those of such a list (Cox, Little and O'Shea, "Ideals,
-- Varieties, and Algorithms", chapter 1, section 1).
use Rattle.std.specs.Prelude.{ℕ, ◌+◌, ◌%◌, ◌<◌, ◌==◌, if◌then◌else◌, List, [], ◌∷◌}
use Rattle.ffc_term.specs.Measuring.{greatest_by}
use Rattle.ffc_ring.specs.Monomial.{Monomial, degree, same_monomial}
use Rattle.ffc_ring.specs.Polynomial.{Terms, IsNoneOf}

-- a term, unless its coefficient is 0 modulo p, in front of others
abbrev pub term_before : ℕ → ℕ → Monomial → Terms → Terms
term_before p c m ts = if c % p == 0 then ts else (c % p, m) ∷ ts

-- a term added to a polynomial
abbrev pub with_term : ℕ → ℕ → Monomial → Terms → Terms
with_term p c m [] = term_before p c m []
with_term p c m (t ∷ ts) = if same_monomial m t.1 then term_before p (c + t.0) m ts else t ∷ with_term p c m ts

-- the polynomial of a list of terms as written
unfoldable pub normal : ℕ → Terms → Terms
normal p [] = []
normal p (t ∷ ts) = with_term p t.0 t.1 (normal p ts)

-- the degree of a list of terms
abbrev pub degree_of : Terms → ℕ
degree_of ts = greatest_by (λ t. degree t.1) ts

-- the monomials of a list of terms
abbrev pub monomials_of : Terms → List Monomial
monomials_of [] = []
monomials_of (t ∷ ts) = t.1 ∷ monomials_of ts

-- different monomials with coefficients from 1 to p - 1
abbrev pub IsNormal : ℕ → Terms → Type 0
IsNormal p [] = Unit {0}
IsNormal p (t ∷ ts) = (0 < t.0) × (t.0 < p) × IsNoneOf (monomials_of ts) t.1 × IsNormal p ts
