use Rattle.ffc_base.specs.Metering.{Takes}
use Rattle.ffc_search.specs.Above.{StaysAbove}
use Rattle.ffc_search.proofs.branches.leave.Given as goal

abbrev pub invariant-loop : goal.invariant-loop
invariant-loop g l = record {
  above : StaysAbove l.floor l.fn.stack l.stack;
  takes : Takes l.fn.meter l.meter;
}
