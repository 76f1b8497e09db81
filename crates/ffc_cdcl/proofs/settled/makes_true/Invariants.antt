use Rattle.std.proofs.Common.{All, take}
use Rattle.ffc_cdcl.specs.Literals.{HasTrue}
use Rattle.ffc_cdcl.proofs.settled.makes_true.Given as goal

abbrev pub invariant-loop-clause : goal.invariant-loop-clause
invariant-loop-clause l = All (HasTrue l.trail.literals) (take l.clause-index l.clauses)
