use Rattle.std.proofs.Common.{◌≤◌, length}
use Rattle.ffc_term.specs.Marking.{IsMarking}
use Rattle.ffc_term.proofs.walk.mark_nodes.Given as goal

abbrev pub invariant-loop-id : goal.invariant-loop-id
invariant-loop-id l = record { marking : IsMarking l.table l.ids l.marks l.end; within : l.end ≤ length l.table }

abbrev pub decreases-loop-id : goal.decreases-loop-id
decreases-loop-id l = l.end
