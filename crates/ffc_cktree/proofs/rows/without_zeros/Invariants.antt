use Rattle.std.proofs.Common.{map, take}
use Rattle.ffc_uni.specs.Univariate.{SameUnivariate}
use Rattle.ffc_cktree.proofs.rows.without_zeros.Given as goal

abbrev pub invariant-loop-place : goal.invariant-loop-place
invariant-loop-place g l =
    let value = g.F.Field.value in
    SameUnivariate g.F.Field.ORDER (map value (take l.place l.row)) (map value l.row)
