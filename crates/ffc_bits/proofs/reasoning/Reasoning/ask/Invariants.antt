use Rattle.ffc_base.specs.Metering.{Takes}
use Rattle.ffc_bits.proofs.reasoning.Reasoning.ask.Given as goal

abbrev pub invariant-loop : goal.invariant-loop
invariant-loop g l = Takes l.fn.meter l.meter
