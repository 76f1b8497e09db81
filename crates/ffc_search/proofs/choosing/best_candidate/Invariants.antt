use Rattle.std.proofs.Common.{◌≡◌}
use Rattle.ffc_base.specs.Metering.{Takes}
use Rattle.ffc_search.proofs.choosing.best_candidate.Given as goal

abbrev pub invariant-loop-x : goal.invariant-loop-x
invariant-loop-x g l = record {
  same : l.stack ≡ l.fn.stack;
  takes : Takes l.fn.meter l.meter;
}
