use Rattle.std.proofs.Common.{◌≡◌, ◌+◌, ◌%◌, drop}
use Rattle.ffc_ring.specs.Polynomial.{value_sum}
use Rattle.ffc_ckpoly.specs.Flat.{cut, Parts}
use Rattle.ffc_ckpoly.specs.Sorted.{point_of}
use Rattle.ffc_ckpoly.proofs.reading.value_at.Given as goal

abbrev pub invariant-loop-mark : goal.invariant-loop-mark
invariant-loop-mark g l =
    let value = g.F.Field.value in
    let point = point_of value l.at in
    record {
      parts : Parts l.start (drop l.mark-index l.marks) l.rest;
      so_far : (value l.sum + value_sum point (cut value l.start (drop l.mark-index l.marks) l.rest)) % g.F.Field.ORDER
          ≡ value_sum point (cut value 0 l.marks l.powers) % g.F.Field.ORDER;
    }
