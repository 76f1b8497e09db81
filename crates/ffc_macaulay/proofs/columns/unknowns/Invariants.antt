use Rattle.ffc_macaulay.specs.Matrix.{AreAbove}
use Rattle.ffc_macaulay.proofs.columns.unknowns.Given as goal

abbrev pub invariant-loop-below : goal.invariant-loop-below
invariant-loop-below l = AreAbove l.below l.monomials l.unknowns.keys
