use Rattle.std.proofs.Common.{◌-◌}
use Rattle.ffc_base.specs.Metering.{total}
use Rattle.ffc_base.specs.Metering.{Takes}
use Rattle.ffc_search.specs.Above.{StaysAbove}
use Rattle.ffc_search.proofs.rounds.take_turns.Given as goal

abbrev pub invariant-loop-progress : goal.invariant-loop-progress
invariant-loop-progress g l = record {
  above : StaysAbove l.task.floor l.fn.stack l.stack;
  takes : Takes l.fn.meter l.meter;
}

abbrev pub decreases-loop-progress : goal.decreases-loop-progress
decreases-loop-progress g l = l.meter.budget - total l.meter
