use Rattle.std.proofs.Common.{◌≡◌, take, count_by}
use Rattle.ffc_base.specs.declared.meter.Unit.TheVariants as unit
use Rattle.ffc_echelon.specs.Placing.{is_marked}
use Rattle.ffc_echelon.proofs.TrialLemmas.{IsTaken}
use Rattle.ffc_echelon.proofs.placing.first_unmarked.Given as goal

abbrev pub invariant-loop-place : goal.invariant-loop-place
invariant-loop-place l = record {
  marked : count_by is_marked (take l.place l.marks) ≡ l.place;
  taken : IsTaken unit.Trial l.place l.initial.meter l.meter;
}
