use Rattle.std.proofs.Common.{heap_items, heap_len}
use Rattle.ffc_encode.specs.Waiting.{owed_of, Takes}
use Rattle.ffc_encode.proofs.sums.next.Given as goal

abbrev pub invariant-same : goal.invariant-same
invariant-same g l = Takes g.F.Field.ORDER (heap_items l.fn.waiting) (owed_of l.first.node (g.F.Field.value l.weight)) (heap_items l.waiting)

abbrev pub decreases-same : goal.decreases-same
decreases-same g l = heap_len l.waiting
