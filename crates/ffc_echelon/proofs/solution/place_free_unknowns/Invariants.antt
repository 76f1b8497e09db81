use Rattle.std.proofs.Common.{◌≡◌, ◌+◌, ◌*◌, length, map, take, get_or, count_by, is_none}
use Rattle.ffc_base.specs.declared.meter.Unit.TheVariants as unit
use Rattle.ffc_echelon.proofs.PlacingLemmas.{AreSettled}
use Rattle.ffc_echelon.proofs.TrialLemmas.{IsTaken}
use Rattle.ffc_echelon.proofs.solution.place_free_unknowns.Given as goal

abbrev pub invariant-loop-column : goal.invariant-loop-column
invariant-loop-column g l = record {
  settled : AreSettled g.F.Field.ORDER (length l.leads) (map g.F.Field.value l.point) l.forms l.column;
  one : get_or (map g.F.Field.value l.point) (length l.leads) 0 ≡ 1;
  taken : IsTaken unit.Trial (count_by is_none (take l.column l.leads) * (length l.forms + 1)) l.initial.meter l.meter;
}
