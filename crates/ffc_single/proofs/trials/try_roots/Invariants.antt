use Rattle.std.proofs.Common.{◌≡◌, ◌+◌, map, take}
use Rattle.ffc_base.specs.Metering.{Takes, total}
use Rattle.ffc_single.specs.Outcomes.{AreCasesAt}
use Rattle.ffc_single.proofs.trials.try_roots.Given as goal

abbrev pub invariant-loop-number : goal.invariant-loop-number
invariant-loop-number g l = record {
  cases : AreCasesAt g.F.Field.ORDER (map g.F.Field.value (take l.number l.zeros)) l.ids l.forms l.found;
  takes : Takes l.fn.meter l.meter;
  taken : total l.meter ≡ total l.fn.meter + l.number;
}
