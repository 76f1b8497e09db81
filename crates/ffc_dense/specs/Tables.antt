-- Kept multiples of lines.
use Rattle.std.specs.Prelude.{◌≡◌, ℕ, ◌<◌, ◌⊎◌, List, [], ◌∷◌, All, Option, None, Some, IfSome, length, get_or, slice_get}
use Rattle.std.specs.declared.cmp.Ordering.{Ordering}
use Rattle.ffc_ring.specs.Monomial.{Monomial, IsMonomial, mono_mul}
use Rattle.ffc_ring.specs.Polynomial.{Terms, AreTerms, SamePolynomial, term_product}
use Rattle.ffc_mono.specs.Leading.{IsLeading}
use Rattle.ffc_poly.specs.Ordered.{IsOrdered}
use Rattle.ffc_dense.specs.Columns.{terms_of, AreNumbers}
use Rattle.ffc_dense.specs.declared.table.Kept.{Kept}

-- the number of a line, a monomial, and the terms of their product
abbrev pub Multiple : Type 0
Multiple = ℕ × Monomial × Terms

-- the multiples that are kept
abbrev pub multiples_of : {F : Type 0} → (F → ℕ) → List Monomial → List (Option (Kept F)) → List Multiple
multiples_of value ms [] = []
multiples_of value ms (None ∷ ks) = multiples_of value ms ks
multiples_of value ms (Some k ∷ ks) = (k.line, k.monomial, terms_of value ms k.terms.items) ∷ multiples_of value ms ks

-- its numbers are those of monomials, in decreasing order
abbrev pub IsKept : {F : Type 0} → ℕ → (F → ℕ) → (Monomial → Monomial → Ordering) → List Monomial → Option (Kept F) → Type 0
IsKept p value cmp ms None = Unit {0}
IsKept p value cmp ms (Some k) = AreNumbers (length ms) k.terms.items × IsOrdered p cmp 1024 (terms_of value ms k.terms.items)

-- each is that multiple of one of these lines
abbrev pub AreMultiplesOf : ℕ → List Terms → List Multiple → Type 0
AreMultiplesOf p gs ks = All (λ k. (k.0 < length gs) × SamePolynomial p k.2 (term_product 1 k.1 (get_or gs k.0 []))) ks

-- the line of this number is this polynomial
abbrev pub IsLineOf : List Terms → ℕ → Terms → Type 0
IsLineOf gs line q = (line < length gs) × (get_or gs line [] ≡ q)

-- a multiple as it is kept
abbrev pub multiple_of : {F : Type 0} → (F → ℕ) → List Monomial → Kept F → Multiple
multiple_of value ms k = (k.line, k.monomial, terms_of value ms k.terms.items)

-- the multiple of a line by a monomial is kept at a place
abbrev pub HasMultiple : {F : Type 0} → List (Option (Kept F)) → ℕ → ℕ → Monomial → Type 0
HasMultiple {F} kept slot line m =
    (k : Kept F) × (get_or kept slot None ≡ Some k) × (k.line ≡ line) × (k.monomial ≡ m)

-- and its first monomial has the number of the place
abbrev pub IsHeldAt : {F : Type 0} → List (Option (Kept F)) → ℕ → ℕ → Monomial → Type 0
IsHeldAt {F} kept slot line m =
    (k : Kept F) × (get_or kept slot None ≡ Some k) × (k.line ≡ line) × (k.monomial ≡ m)
    × ((t : ℕ × F) × (Some t ≡ slice_get k.terms.items 0) × (t.0 ≡ slot))

-- the polynomial has the leading coefficient c, and the leading monomial of the line times m
abbrev pub LeadsMultiple : ℕ → (Monomial → Monomial → Ordering) → List Terms → Terms → ℕ → ℕ → Monomial → Type 0
LeadsMultiple p cmp gs ts line c m =
    (line < length gs)
    × ((d : ℕ) (n : Monomial) → AreTerms (get_or gs line []) → IsMonomial n → IsLeading p cmp (get_or gs line []) d n → IsLeading p cmp ts c (mono_mul n m))

-- only this multiple is new
abbrev pub PutsAtMost : {F : Type 0} → Kept F → List (Option (Kept F)) → List (Option (Kept F)) → Type 0
PutsAtMost k old new = (i : ℕ) → (get_or new i None ≡ Some k) ⊎ (get_or new i None ≡ get_or old i None)

-- what is left is of lines before this number
abbrev pub KeepsBefore : {F : Type 0} → ℕ → List (Option (Kept F)) → List (Option (Kept F)) → Type 0
KeepsBefore len old new =
    (i : ℕ) → (get_or new i None ≡ None) ⊎ ((get_or new i None ≡ get_or old i None) × IfSome (get_or new i None) (λ k. k.line < len))

-- each kept multiple is one
abbrev pub AreKept : {F : Type 0} → ℕ → (F → ℕ) → (Monomial → Monomial → Ordering) → List Monomial → List (Option (Kept F)) → Type 0
AreKept p value cmp ms ks = (i : ℕ) → IsKept p value cmp ms (get_or ks i None)
