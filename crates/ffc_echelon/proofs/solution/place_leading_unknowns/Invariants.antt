use Rattle.std.proofs.Common.{◌≡◌, length, map, drop, get_or, count_by, is_some}
use Rattle.ffc_base.specs.declared.meter.Unit.TheVariants as unit
use Rattle.ffc_echelon.specs.Vectors.{Coordinates, AreCoordinates, dot}
use Rattle.ffc_echelon.specs.Forms.{IsReduced}
use Rattle.ffc_echelon.proofs.PlacingLemmas.{AreZeros}
use Rattle.ffc_echelon.proofs.TrialLemmas.{IsTaken}
use Rattle.ffc_echelon.proofs.solution.place_leading_unknowns.Given as goal

abbrev pub invariant-loop-column : goal.invariant-loop-column
invariant-loop-column g l =
    let value = g.F.Field.value in
    let p = g.F.Field.ORDER in
    record {
      zeros : AreZeros p (map value l.point) l.rows l.column;
      kept :
          (v : Coordinates) → AreCoordinates p v → IsReduced l.rows v
          → dot p (map value l.point) v ≡ dot p (map value l.initial.point) v;
      one : get_or (map value l.point) (length l.leads) 0 ≡ get_or (map value l.initial.point) (length l.leads) 0;
      taken : IsTaken unit.Trial (count_by is_some (drop l.column l.leads)) l.initial.meter l.meter;
    }
