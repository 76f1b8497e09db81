use Rattle.std.proofs.Common.{◌≡◌, length}
use Rattle.ffc_echelon.specs.Ordering.{ArePlaced}
use Rattle.ffc_echelon.proofs.ordering.place_all.Given as goal

abbrev pub invariant-loop-place : goal.invariant-loop-place
invariant-loop-place g l =
    record {
      wide : length l.point ≡ length l.initial.point;
      each : ArePlaced g.F.Field.value l.order l.values l.place l.point;
    }
