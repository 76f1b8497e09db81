-- The summands of a contradiction.
use Rattle.std.specs.Prelude.{ℕ, ◌==◌, if◌then◌else◌, List, [], ◌∷◌}
use Rattle.ffc_refutation.specs.Combinations.{Summand}
use Rattle.ffc_ring.specs.Monomial.{Monomial}

-- the multiples with a coefficient other than 0
abbrev pub summands_of : List (ℕ × Monomial) → List ℕ → List Summand
summands_of [] cs = []
summands_of (m ∷ ms) [] = []
summands_of (m ∷ ms) (c ∷ cs) = if c == 0 then summands_of ms cs else (m.0, (c, m.1)) ∷ summands_of ms cs
