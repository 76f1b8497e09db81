-- Sums of ordered polynomials.
use Rattle.std.specs.Prelude.{◌≡◌, ◌≢◌, ℕ, ◌<◌, ◌⊎◌, List, [], ◌∷◌, length, get_or}
use Rattle.std.specs.declared.cmp.Ordering.{Ordering}
use Rattle.std.specs.declared.cmp.Ordering.TheVariants.{Less, Greater}
use Rattle.ffc_ring.specs.Monomial.{Monomial}
use Rattle.ffc_ring.specs.Polynomial.{Terms}
use Rattle.ffc_poly.specs.Ordered.{IsOrdered}

-- each is ordered
abbrev pub AreOrdered : ℕ → (Monomial → Monomial → Ordering) → ℕ → List Terms → Type 0
AreOrdered p cmp limit [] = Unit {0}
AreOrdered p cmp limit (ts ∷ tss) = IsOrdered p cmp limit ts × AreOrdered p cmp limit tss

-- the monomial of the first term of a list
abbrev pub lead_of : List Terms → ℕ → Monomial
lead_of xs i = (get_or (get_or xs i []) 0 (0, [])).1

-- the first n lists are empty
abbrev pub AreEmpty : List Terms → ℕ → Type 0
AreEmpty xs n = (j : ℕ) → j < n → get_or xs j [] ≡ []

-- the leading monomial of a list is below none of those of the first n lists
abbrev pub IsHighest : (Monomial → Monomial → Ordering) → List Terms → ℕ → ℕ → Type 0
IsHighest cmp xs n i =
    (i < length xs) × (0 < length (get_or xs i []))
    × ((j : ℕ) → j < n → (get_or xs j [] ≡ []) ⊎ (cmp (lead_of xs i) (lead_of xs j) ≢ Less))

-- none of the first n lists but it has the same leading monomial
abbrev pub IsAlone : List Terms → ℕ → ℕ → Type 0
IsAlone xs n i = (j : ℕ) → j < n → j ≢ i → (get_or xs j [] ≡ []) ⊎ (lead_of xs j ≢ lead_of xs i)

-- another list has the same leading monomial
abbrev pub IsRival : List Terms → ℕ → ℕ → Type 0
IsRival xs i j = (j < length xs) × (j ≢ i) × (0 < length (get_or xs j [])) × (lead_of xs j ≡ lead_of xs i)

-- the leading monomial of a list is above those of all others
abbrev pub IsTop : (Monomial → Monomial → Ordering) → List Terms → ℕ → Type 0
IsTop cmp xs i =
    (i < length xs) × (0 < length (get_or xs i []))
    × ((j : ℕ) → j < length xs → j ≢ i → (get_or xs j [] ≡ []) ⊎ (cmp (lead_of xs i) (lead_of xs j) ≡ Greater))
