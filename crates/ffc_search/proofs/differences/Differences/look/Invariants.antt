use Rattle.std.proofs.Common.{◌≡◌}
use Rattle.ffc_base.specs.Metering.{Takes}
use Rattle.ffc_search.proofs.differences.Differences.look.Given as goal

abbrev pub invariant-loop-place : goal.invariant-loop-place
invariant-loop-place g l = record {
  same : l.stack ≡ l.fn.stack;
  takes : Takes l.fn.meter l.meter;
}
