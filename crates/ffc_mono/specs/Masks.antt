-- Divisor masks: a number of 32 bits that tells most monomials that do not divide another one apart by one test (Bachmann
-- and Schoenemann, "Monomial representations for Groebner bases computations", 1998).
use Rattle.std.specs.Prelude.{ℕ, ◌%◌, ◌^◌, [], ◌∷◌}
use Rattle.std.specs.Int.RustNames.{bit_or}
use Rattle.ffc_ring.specs.Monomial.{Monomial}

-- each variable x of the monomial sets bit x modulo 32
abbrev pub mask_of : Monomial → ℕ
mask_of [] = 0
mask_of (p ∷ m) = bit_or (2 ^ (p.0 % 32)) (mask_of m)
