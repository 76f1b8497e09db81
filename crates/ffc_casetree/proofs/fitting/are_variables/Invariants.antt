use Rattle.std.proofs.Common.{take}
use Rattle.ffc_casetree.proofs.RangeLemmas.{AreBelow}
use Rattle.ffc_casetree.proofs.fitting.are_variables.Given as goal

abbrev pub invariant-loop-variable : goal.invariant-loop-variable
invariant-loop-variable l = AreBelow l.least (take l.variable-index l.variables)
