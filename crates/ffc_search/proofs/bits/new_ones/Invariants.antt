use Rattle.std.proofs.Common.{◌≡◌}
use Rattle.ffc_base.specs.Metering.{Takes}
use Rattle.ffc_search.proofs.bits.new_ones.Given as goal

abbrev pub invariant-loop-step : goal.invariant-loop-step
invariant-loop-step g l = record {
  same : l.stack ≡ l.fn.stack;
  takes : Takes l.fn.meter l.meter;
}
