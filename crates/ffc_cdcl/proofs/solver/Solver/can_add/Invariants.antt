use Rattle.std.proofs.Common.{take}
use Rattle.ffc_cdcl.specs.State.{AllBelow}
use Rattle.ffc_cdcl.proofs.solver.Solver.can_add.Given as goal

abbrev pub invariant-loop-literal : goal.invariant-loop-literal
invariant-loop-literal l = AllBelow l.self.nodes (take l.literal-index l.lits)
