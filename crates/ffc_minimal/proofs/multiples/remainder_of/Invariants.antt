use Rattle.std.proofs.Common.{◌≡◌}
use Rattle.ffc_base.specs.Metering.{Takes}
use Rattle.ffc_minimal.proofs.multiples.remainder_of.Given as goal

abbrev pub invariant-loop-c : goal.invariant-loop-c
invariant-loop-c g l = record {
  same : l.stack ≡ l.fn.stack;
  takes : Takes l.fn.meter l.meter;
}
