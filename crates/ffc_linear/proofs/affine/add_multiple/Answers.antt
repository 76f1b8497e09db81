use Rattle.std.proofs.Common.{rules, ◌≡◌, ◌+◌, ◌<◌, length, map, arith}
use Rattle.ffc_echelon.proofs.Buffers.{residue_below}
use Rattle.ffc_linear.proofs.ColumnLemmas.{column_inside}
use Rattle.ffc_linear.proofs.DenseLemmas.{sum_of_none, sum_of_all, next_with, next_without}
use Rattle.ffc_linear.proofs.affine.add_multiple.Goals as goal
use Rattle.ffc_linear.proofs.affine.add_multiple.Goals.{in-Some, in_default}

pub bounds-dense-k : goal.bounds-dense-k
bounds-dense-k g c =
    let wide : length c.loop-i.dense ≡ length c.args.constants.now + 1 = omega (arith, c.requires.width, c.loop-i.auto.dense) in
    column_inside c.args.constants.now c.pairs.result.now c.monomial_column.result c.in-Some.k (length c.loop-i.dense) c.monomial_column.ensures c.in-Some.is wide

pub offset_bounds-dense-k : goal.offset_bounds-dense-k
offset_bounds-dense-k g c = let inside : c.in-Some.k < length c.loop-i.dense = bounds-dense-k g c in search rules

pub bounds-dense-k-in-Some : goal.bounds-dense-k-in-Some
bounds-dense-k-in-Some g c =
    let wide : length c.loop-i.dense ≡ length c.args.constants.now + 1 = omega (arith, c.requires.width, c.loop-i.auto.dense) in
    column_inside c.args.constants.now c.pairs.result.now c.monomial_column.result c.in-Some.k (length c.loop-i.dense) c.monomial_column.ensures c.in-Some.is wide

pub offset_bounds-dense-k-in-Some : goal.offset_bounds-dense-k-in-Some
offset_bounds-dense-k-in-Some g c = let inside : c.in-Some.k < length c.loop-i.dense = bounds-dense-k-in-Some g c in search rules

pub loop-i-init : goal.loop-i-init
loop-i-init g c =
    let value = g.F.Field.value in
    let p = g.F.Field.ORDER in
    sum_of_none p c.args.constants.now (map value c.args.dense.now) (value c.args.scale)
    (λ k. residue_below value p g.met.F.Field.below c.args.dense.now k (omega (arith, g.met.F.Field.prime.least)))

pub loop-i-preserved : goal.loop-i-preserved
loop-i-preserved g c =
    let value = g.F.Field.value in
    let p = g.F.Field.ORDER in
    let ids = c.args.constants.now in
    let before = map value c.args.dense.now in
    let scale = value c.args.scale in
    let all = c.args.poly.now in
    let i = c.loop-i.i in
    let coefficient = c.term-c.result.0 in
    let m = c.term-c.result.1.powers.now in
    let n = c.pairs.result.now in
    let column = c.monomial_column.result in
    let dense = c.loop-i.dense in
    let next = c.match-monomial_column.dense in
    let inside : i < length all = omega (arith, c.loop-i-test.true, c.len-i-end.ensures.value) in
    let wide : length dense ≡ length ids + 1 = omega (arith, c.requires.width, c.loop-i.auto.dense) in
    elim c.match-monomial_column.branch [
      | in-Some w ↦
          next_with value p ids before scale all i coefficient m n column dense inside c.term-c.ensures.coefficient c.term-c.ensures.monomial c.pairs.ensures.value c.monomial_column.ensures
          c.loop-i.invariant next w.in-Some.k w.index-dense-k.result w.add_scaled.result w.in-Some.is
          (column_inside ids n column w.in-Some.k (length dense) c.monomial_column.ensures w.in-Some.is wide) w.index-dense-k.is w.add_scaled.ensures w.dense-is
      | in_default w ↦
          next_without value p ids before scale all i coefficient m n column dense inside c.term-c.ensures.coefficient c.term-c.ensures.monomial c.pairs.ensures.value c.monomial_column.ensures
          c.loop-i.invariant next w.in_default.is w.dense-is
    ]

pub returns : goal.returns
returns g c =
    let value = g.F.Field.value in
    sum_of_all g.F.Field.ORDER c.args.constants.now (map value c.args.dense.now) (value c.args.scale) c.args.poly.now c.loop-i.i (map value c.loop-i.dense)
    (omega (arith, c.loop-i-test.false, c.len-i-end.ensures.value)) c.loop-i.invariant
