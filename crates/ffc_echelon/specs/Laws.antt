-- Laws of echelon forms (Gaussian elimination; Knuth, "The Art of Computer Programming", volume 2, section 4.6.2): where
-- sums of multiples of rows lead that lead in different columns.
use Rattle.std.specs.Prelude.{◌≡◌, ◌≢◌, ℕ, ◌%◌, ◌<◌, List, [], All, length, slice_get, Some}
use Rattle.ffc_echelon.specs.Vectors.{Coordinates, AreCoordinates}
use Rattle.ffc_echelon.specs.Forms.{Kept, Multiplier, AreLeading, IsSpanned, LeadsIn, leading_column, multiple_in}

-- A vector other than 0 that is a sum of multiples of kept rows has its first coordinate in the column in which one of them leads.
abbrev pub SpannedVectorsLead : Type 0
SpannedVectorsLead =
    (p n : ℕ) (kept : List Kept) (v : Coordinates) → All (λ r. AreCoordinates p r.coordinates) kept → AreLeading n kept → AreCoordinates p v
    → v ≢ [] → IsSpanned p kept v → (j : ℕ) × (r : Kept) × (slice_get kept j ≡ Some r) × (leading_column r.coordinates ≡ leading_column v)

-- One of them leads in the first column in which a sum of multiples is not 0.
abbrev pub SumsLead : Type 0
SumsLead =
    (p n : ℕ) (kept : List Kept) (multipliers : List Multiplier) (c : ℕ) → All (λ r. AreCoordinates p r.coordinates) kept → AreLeading n kept
    → All (λ m. m.0 < length kept) multipliers → ((d : ℕ) → d < c → multiple_in kept multipliers d % p ≡ 0)
    → multiple_in kept multipliers c % p ≢ 0 → LeadsIn kept c
