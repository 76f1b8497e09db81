use Rattle.ffc_base.specs.Metering.{Takes}
use Rattle.ffc_minimal.proofs.echelon.Echelon.add.Given as goal

abbrev pub invariant-loop-row : goal.invariant-loop-row
invariant-loop-row g l = Takes l.fn.meter l.meter
