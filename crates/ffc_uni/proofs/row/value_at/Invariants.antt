use Rattle.std.proofs.Common.{◌≡◌, map, drop}
use Rattle.ffc_uni.specs.Univariate.{value_of}
use Rattle.ffc_uni.proofs.row.value_at.Given as goal

abbrev pub invariant-loop-place : goal.invariant-loop-place
invariant-loop-place g l =
    let value = g.F.Field.value in
    value l.value ≡ value_of g.F.Field.ORDER (value l.x) (map value (drop l.place l.row))
