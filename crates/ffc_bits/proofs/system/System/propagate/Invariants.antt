use Rattle.ffc_base.specs.Metering.{Takes}
use Rattle.ffc_bits.proofs.system.System.propagate.Given as goal

abbrev pub invariant-loop : goal.invariant-loop
invariant-loop g l = Takes l.fn.meter l.meter

abbrev pub invariant-loop-2 : goal.invariant-loop-2
invariant-loop-2 g l = Takes l.fn.meter l.meter
