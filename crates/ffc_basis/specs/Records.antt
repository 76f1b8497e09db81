-- The record of a reduction by lines: what each line was multiplied by, as terms in the order of the steps.
use Rattle.std.specs.Prelude.{◌≤◌, [], ◌∷◌, length}
use Rattle.ffc_ring.specs.Polynomial.{AreTerms}
use Rattle.ffc_line.specs.Lines.{Parts, IsLineOfNone}

-- each part is a list of at most as many terms as a polynomial may have
abbrev pub AreShort : Parts → Type 0
AreShort [] = Unit {0}
AreShort (t ∷ ts) = AreTerms t.1 × (length t.1 ≤ 131072) × AreShort ts

-- there is one part of a line at most
abbrev pub AreOfDifferentLines : Parts → Type 0
AreOfDifferentLines [] = Unit {0}
AreOfDifferentLines (t ∷ ts) = IsLineOfNone t.0 ts × AreOfDifferentLines ts
