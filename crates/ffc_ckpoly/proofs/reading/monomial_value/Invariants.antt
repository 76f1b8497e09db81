use Rattle.std.proofs.Common.{◌≡◌, ◌*◌, ◌%◌, drop}
use Rattle.ffc_ring.specs.Monomial.{mono_value}
use Rattle.ffc_ckpoly.specs.Sorted.{point_of}
use Rattle.ffc_ckpoly.proofs.reading.monomial_value.Given as goal

abbrev pub invariant-loop-power : goal.invariant-loop-power
invariant-loop-power g l =
    let value = g.F.Field.value in
    let point = point_of value l.at in
    (value l.value * mono_value point (drop l.power-index l.powers)) % g.F.Field.ORDER ≡ mono_value point l.powers % g.F.Field.ORDER
