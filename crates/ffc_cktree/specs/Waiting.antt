-- Branches that wait are kept as one list of lines with marks: a branch that waits has the lines up to its mark, and after
-- them the line of its root.
use Rattle.std.specs.Prelude.{ℕ, ◌<◌, ◌≤◌, List, [], ◌∷◌, ◌++◌, map, take}
use Rattle.ffc_ring.specs.Polynomial.{Terms}
use Rattle.ffc_trees.specs.TreeLines.{root_line}
use Rattle.ffc_cktree.specs.declared.cases.Case.{Case}

-- the cases of these roots, where the present branch has so many lines
abbrev pub cases_at : ℕ → ℕ → List ℕ → List Case
cases_at mark x roots = map (λ root. record { mark = mark; variable = x; root = root }) roots

-- the lines of a branch that waits
abbrev pub lines_of : ℕ → List Terms → Case → List Terms
lines_of p lines c = take c.mark lines ++ root_line p c.variable c.root ∷ []

-- the branches that wait, the one that is opened next first
abbrev pub branches_of : ℕ → List Terms → List Case → List (List Terms)
branches_of p lines cases = map (lines_of p lines) cases

-- no mark is past the lines, or past the mark of a case that is opened before; and roots are residues
abbrev pub AreStacked : ℕ → ℕ → List Case → Type 0
AreStacked p n [] = Unit {0}
AreStacked p n (c ∷ cases) = (c.mark ≤ n) × (c.root < p) × AreStacked p c.mark cases
