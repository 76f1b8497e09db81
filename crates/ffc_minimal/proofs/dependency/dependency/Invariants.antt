use Rattle.std.proofs.Common.{◌≡◌}
use Rattle.ffc_base.specs.Metering.{Takes}
use Rattle.ffc_minimal.proofs.dependency.dependency.Given as goal

abbrev pub invariant-loop : goal.invariant-loop
invariant-loop g l = record {
  same : l.stack ≡ l.fn.stack;
  takes : Takes l.fn.meter l.meter;
}
