use Rattle.std.proofs.Common.{◌≤◌, length}
use Rattle.ffc_cdcl.proofs.solver.Solver.reached.Given as goal

abbrev pub invariant-loop-k : goal.invariant-loop-k
invariant-loop-k l = l.k ≤ length l.learned

abbrev pub decreases-loop-k : goal.decreases-loop-k
decreases-loop-k l = l.k
