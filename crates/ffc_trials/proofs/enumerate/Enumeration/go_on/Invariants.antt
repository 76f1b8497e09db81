use Rattle.std.proofs.Common.{◌≡◌, ◌+◌}
use Rattle.ffc_base.specs.Metering.{total}
use Rattle.ffc_check.specs.Judged.{judged_check}
use Rattle.ffc_trials.specs.Enumerating.{IsReached}
use Rattle.ffc_trials.proofs.enumerate.Enumeration.go_on.Given as goal

abbrev pub invariant-loop : goal.invariant-loop
invariant-loop l = record {
  reached : IsReached (judged_check l.check) (total l.meter) l.self;
  spent : total l.meter ≡ total l.initial.meter + l.counter;
  budget : l.meter.budget ≡ l.initial.meter.budget;
}
