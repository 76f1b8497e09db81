use Rattle.std.proofs.Common.{◌≤◌, take, All}
use Rattle.ffc_cdcl.proofs.solver.resting_on.Given as goal

abbrev pub invariant-loop-k : goal.invariant-loop-k
invariant-loop-k l = All (λ x. x.base ≤ l.base) (take l.k l.learned)
