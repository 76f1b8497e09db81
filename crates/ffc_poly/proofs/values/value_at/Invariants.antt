use Rattle.std.proofs.Common.{◌≡◌, ◌+◌, ◌%◌, drop}
use Rattle.ffc_ring.specs.Polynomial.{value_sum}
use Rattle.ffc_poly.specs.Ordered.{point_of}
use Rattle.ffc_poly.proofs.values.value_at.Given as goal

abbrev pub invariant-loop-i : goal.invariant-loop-i
invariant-loop-i g l =
    let point = point_of g.F.Field.value l.at in
    (g.F.Field.value l.sum + value_sum point (drop l.i l.terms)) % g.F.Field.ORDER ≡ value_sum point l.terms % g.F.Field.ORDER
