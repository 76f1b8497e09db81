use Rattle.std.proofs.Common.{All, take}
use Rattle.ffc_cdcl.specs.Settled.{IsSettled}
use Rattle.ffc_cdcl.proofs.settled.all_settled.Given as goal

abbrev pub invariant-loop-clause : goal.invariant-loop-clause
invariant-loop-clause l = All (IsSettled l.trail) (take l.clause-index l.clauses)
