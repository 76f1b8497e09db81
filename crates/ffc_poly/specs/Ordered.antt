-- Polynomials as lists of terms in strictly decreasing order (Cox, Little and O'Shea, chapter 2, section 2).
use Rattle.std.specs.Prelude.{◌≡◌, ◌≢◌, ℕ, zero, suc, ◌+◌, ◌<◌, ◌≤◌, ◌⊎◌, List, [], ◌∷◌, ◌++◌, map, ◌==◌, if◌then◌else◌}
use Rattle.std.specs.declared.cmp.Ordering.{Ordering}
use Rattle.std.specs.declared.cmp.Ordering.TheVariants.{Greater}
use Rattle.ffc_field.specs.Modular.{mul_mod}
use Rattle.ffc_ring.specs.Monomial.{Monomial, IsMonomial, degree, mono_mul}
use Rattle.ffc_ring.specs.Polynomial.{Terms, coefficient, SamePolynomial, PassesTerms}

-- terms over the elements of a field, with the residues of their coefficients
abbrev pub residues : {F : Type 0} → (F → ℕ) → List (F × Monomial) → Terms
residues value [] = []
residues value (t ∷ ts) = (value t.0, t.1) ∷ residues value ts

-- the sum of polynomials: one list of terms after another
abbrev pub sum_of : List Terms → Terms
sum_of [] = []
sum_of (ts ∷ tss) = ts ++ sum_of tss

-- coefficients and monomials side by side
abbrev pub zipped : {F : Type 0} → (F → ℕ) → List F → List Monomial → Terms
zipped value [] ms = []
zipped value (c ∷ cs) [] = []
zipped value (c ∷ cs) (m ∷ ms) = (value c, m) ∷ zipped value cs ms

-- the residues of elements
abbrev pub values_of : {F : Type 0} → (F → ℕ) → List F → List ℕ
values_of value cs = map value cs

-- the monomial is above those of all the terms
abbrev pub IsAbove : (Monomial → Monomial → Ordering) → Monomial → Terms → Type 0
IsAbove cmp m [] = Unit {0}
IsAbove cmp m (t ∷ ts) = (cmp m t.1 ≡ Greater) × IsAbove cmp m ts

-- Terms in strictly decreasing order, with residues other than 0 as coefficients and total degrees up to a limit:
-- of each polynomial within the limit there is one such list.
abbrev pub IsOrdered : ℕ → (Monomial → Monomial → Ordering) → ℕ → Terms → Type 0
IsOrdered p cmp limit [] = Unit {0}
IsOrdered p cmp limit (t ∷ ts) =
    (0 < t.0) × (t.0 < p) × IsMonomial t.1 × (degree t.1 ≤ limit) × IsAbove cmp t.1 ts × IsOrdered p cmp limit ts

-- no monomial but 1 has a coefficient other than 0
abbrev pub IsConstant : ℕ → Terms → Type 0
IsConstant p ts = (m : Monomial) → coefficient p ts m ≢ 0 → m ≡ []

-- the point that a list of elements gives: a variable past its end is 0
abbrev pub point_of : {F : Type 0} → (F → ℕ) → List F → ℕ → ℕ
point_of value [] x = 0
point_of value (y ∷ ys) zero = value y
point_of value (y ∷ ys) (suc x) = point_of value ys x

-- each total degree is at most d
abbrev pub AreWithin : ℕ → Terms → Type 0
AreWithin d [] = Unit {0}
AreWithin d (t ∷ ts) = (degree t.1 ≤ d) × AreWithin d ts

-- some term has the total degree d
abbrev pub HasDegree : ℕ → Terms → Type 0
HasDegree d [] = ⊥
HasDegree d (t ∷ ts) = (degree t.1 ≡ d) ⊎ HasDegree d ts

-- the products of a monomial and each term are within the limit
abbrev pub RowFits : ℕ → Monomial → Terms → Type 0
RowFits limit m [] = Unit {0}
RowFits limit m (t ∷ ts) = (degree m + degree t.1 ≤ limit) × RowFits limit m ts

-- the products of each two terms are within the limit
abbrev pub ProductFits : ℕ → Terms → Terms → Type 0
ProductFits limit [] b = Unit {0}
ProductFits limit (t ∷ a) b = RowFits limit t.1 b × ProductFits limit a b

-- c times each term, with residues as coefficients
abbrev pub multiplied : ℕ → ℕ → Terms → Terms
multiplied p c [] = []
multiplied p c (t ∷ ts) = (mul_mod p c t.0, t.1) ∷ multiplied p c ts

-- c*m times each term, with residues as coefficients
abbrev pub times : ℕ → ℕ → Monomial → Terms → Terms
times p c m [] = []
times p c m (t ∷ ts) = (mul_mod p c t.0, mono_mul m t.1) ∷ times p c m ts

-- a term in front, unless its coefficient is 0
abbrev pub kept : ℕ → Monomial → Terms → Terms
kept k m ts = if k == 0 then ts else (k, m) ∷ ts

-- whatever list the polynomial of these terms is written as, it is within the limit on terms, or over it
abbrev pub IsWithinTerms : ℕ → ℕ → Terms → Type 0
IsWithinTerms p limit ts = (all : Terms) → SamePolynomial p ts all → PassesTerms p limit all → ⊥

abbrev pub IsOverTerms : ℕ → ℕ → Terms → Type 0
IsOverTerms p limit ts = (all : Terms) → SamePolynomial p ts all → PassesTerms p limit all

-- m times the monomial of the first term, where there is one
abbrev pub next_product : Monomial → Terms → List Monomial
next_product m [] = []
next_product m (t ∷ ts) = mono_mul m t.1 ∷ []
