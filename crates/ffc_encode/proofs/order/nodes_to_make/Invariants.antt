use Rattle.ffc_encode.proofs.OrderLemmas.{top, IsUnderway}
use Rattle.ffc_encode.proofs.order.nodes_to_make.Given as goal

abbrev pub invariant-loop-next : goal.invariant-loop-next
invariant-loop-next g l = IsUnderway l.table g.F.Field.ORDER l.known l.id l.to_make l.waiting

abbrev pub decreases-loop-next : goal.decreases-loop-next
decreases-loop-next g l = top l.waiting.entries
