-- Polynomials of many variables in which at most one occurs.
use Rattle.std.specs.Prelude.{◌≡◌, ℕ, [], ◌∷◌}
use Rattle.ffc_ring.specs.Monomial.{Monomial}
use Rattle.ffc_ring.specs.Polynomial.{Terms}

-- a power of the variable v
abbrev pub IsPowerOf : ℕ → Monomial → Type 0
IsPowerOf v [] = Unit {0}
IsPowerOf v (f ∷ []) = f.0 ≡ v
IsPowerOf v (f ∷ g ∷ m) = ⊥

-- no variable but v occurs
abbrev pub IsInOne : ℕ → Terms → Type 0
IsInOne v [] = Unit {0}
IsInOne v (t ∷ ts) = IsPowerOf v t.1 × IsInOne v ts
