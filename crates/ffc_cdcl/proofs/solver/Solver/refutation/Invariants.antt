use Rattle.ffc_cdcl.specs.State.{IsKept}
use Rattle.ffc_cdcl.specs.Steps.{IsDerivation}
use Rattle.ffc_cdcl.proofs.solver.Solver.refutation.Given as goal

abbrev pub invariant-loop-k : goal.invariant-loop-k
invariant-loop-k l = IsDerivation (IsKept l.self.lemmas) l.self.added l.steps.items
