-- What elimination in the matrix of a degree finds.
use Rattle.std.specs.Prelude.{ℕ, ◌≤◌, List, length}
use Rattle.ffc_echelon.specs.Forms.{IsFormOf}
use Rattle.ffc_refutation.specs.Combinations.{IsNonzeroConstant}
use Rattle.ffc_ring.specs.Polynomial.{Terms}
use Rattle.ffc_macaulay.specs.Identities.{AreLinesOf}
use Rattle.ffc_macaulay.specs.Matrix.{IsMatrix}
use Rattle.ffc_macaulay.specs.declared.finding.Found.{Found}
use Rattle.ffc_macaulay.specs.declared.finding.Found.TheVariants.{Identity, Form}

-- few multiples that sum to a constant other than 0, or the matrix with an echelon form of its rows
abbrev pub IsFound : {F : Type 0} → ℕ → ℕ → List ℕ → List ℕ → List Terms → Found F → Type 0
IsFound p d xs degrees generators (Identity summands) =
    (length summands.items ≤ 4096) × ((lines : List Terms) → AreLinesOf p generators lines → IsNonzeroConstant p lines summands.items)
IsFound p d xs degrees generators (Form matrix form) =
    IsMatrix p d xs degrees generators matrix.unknowns.keys matrix.multiples.items matrix.rows.items
    × IsFormOf p (length matrix.unknowns.keys) matrix.rows.items form
