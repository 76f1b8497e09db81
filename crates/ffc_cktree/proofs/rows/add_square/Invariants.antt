use Rattle.std.proofs.Common.{◌+◌, map, drop}
use Rattle.ffc_uni.specs.Univariate.{SameUnivariate, plus, times}
use Rattle.ffc_uni.specs.Rows.{shifted}
use Rattle.ffc_cktree.proofs.rows.add_square.Given as goal

abbrev pub invariant-loop-place : goal.invariant-loop-place
invariant-loop-place g l =
    let value = g.F.Field.value in
    let rest = map value (drop l.place l.a) in
    SameUnivariate g.F.Field.ORDER (plus (map value l.out) (shifted (l.place + l.place) (times rest rest))) (plus (map value l.initial.out) (times (map value l.a) (map value l.a)))
