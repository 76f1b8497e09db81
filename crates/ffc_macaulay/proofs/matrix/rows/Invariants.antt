use Rattle.std.proofs.Common.{◌++◌, [], ◌∷◌, take}
use Rattle.ffc_macaulay.specs.Matrix.{AreRows}
use Rattle.ffc_macaulay.proofs.matrix.rows.Given as goal

abbrev pub invariant-loop-multiple : goal.invariant-loop-multiple
invariant-loop-multiple g l = AreRows g.F.Field.ORDER (l.unknowns.keys ++ [] ∷ []) l.generators (take l.multiple-index l.multiples) l.rows.items
