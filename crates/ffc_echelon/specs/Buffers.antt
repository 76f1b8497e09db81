-- Dense buffers: a number for each column, with multiples of vectors added to them, and the vector that a buffer holds.
use Rattle.std.specs.Prelude.{ℕ, suc, ◌==◌, List, [], ◌∷◌, slice_index_or, slice_set, if◌then◌else◌}
use Rattle.ffc_field.specs.Modular.{add_mod, mul_mod}
use Rattle.ffc_echelon.specs.Vectors.{Coordinates}

-- one number raised, which is none past the end
abbrev pub raised : ℕ → List ℕ → ℕ → ℕ → List ℕ
raised p xs k x = slice_set xs k (add_mod p (slice_index_or xs k 0) x)

-- a multiple of a vector added, coordinate by coordinate
abbrev pub with_multiple : ℕ → ℕ → Coordinates → List ℕ → List ℕ
with_multiple p c [] xs = xs
with_multiple p c (e ∷ v) xs = with_multiple p c v (raised p xs e.0 (mul_mod p c e.1))

-- the numbers other than 0, with their columns from `low` on
abbrev pub nonzero_from : ℕ → List ℕ → Coordinates
nonzero_from low [] = []
nonzero_from low (x ∷ xs) = if x == 0 then nonzero_from (suc low) xs else ((low, x) ∷ nonzero_from (suc low) xs)
