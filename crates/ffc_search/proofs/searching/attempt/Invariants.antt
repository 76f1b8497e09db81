use Rattle.std.proofs.Common.{◌-◌}
use Rattle.ffc_base.specs.Metering.{total}
use Rattle.ffc_base.specs.Metering.{Takes}
use Rattle.ffc_search.specs.Above.{StaysAbove}
use Rattle.ffc_search.proofs.searching.attempt.Given as goal

abbrev pub invariant-loop-weights : goal.invariant-loop-weights
invariant-loop-weights g l = record {
  above : StaysAbove l.floor l.fn.stack l.stack;
  takes : Takes l.fn.meter l.meter;
}

abbrev pub decreases-loop-weights : goal.decreases-loop-weights
decreases-loop-weights g l = l.meter.budget - total l.meter
