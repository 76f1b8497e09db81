use Rattle.std.proofs.Common.{take}
use Rattle.ffc_echelon.specs.Ordering.{AreReordered}
use Rattle.ffc_echelon.proofs.ordering.reordered_all.Given as goal

abbrev pub invariant-loop-vector : goal.invariant-loop-vector
invariant-loop-vector g l = AreReordered g.F.Field.ORDER l.order (take l.vector-index l.vectors) l.all.items
