use Rattle.std.proofs.Common.{length}
use Rattle.ffc_search.specs.Above.{StaysAbove}
use Rattle.ffc_search.proofs.branches.pop_to.Given as goal

abbrev pub invariant-loop-stack : goal.invariant-loop-stack
invariant-loop-stack g l = StaysAbove l.floor l.fn.stack l.stack

abbrev pub decreases-loop-stack : goal.decreases-loop-stack
decreases-loop-stack g l = length l.stack.marks
