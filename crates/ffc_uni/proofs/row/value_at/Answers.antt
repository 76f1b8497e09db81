use Rattle.std.proofs.Common.{map, drop, sym, ap, ◌∙◌, arith}
use Rattle.ffc_field.specs.Modular.{add_mod, mul_mod}
use Rattle.ffc_uni.specs.Univariate.{sum_at, value_of}
use Rattle.ffc_uni.proofs.Passes.{horner_step}
use Rattle.ffc_uni.proofs.Rows.{left_before}
use Rattle.ffc_uni.proofs.row.value_at.Goals as goal

pub loop-place-preserved : goal.loop-place-preserved
loop-place-preserved g c =
    let value = g.F.Field.value in
    let p = g.F.Field.ORDER in
    let x = value c.args.x in
    let r = c.index-row-place.result in
    let place = c.loop-place.place in
    let after = sum_at x (map value (drop place c.args.row.now)) in
    let left = left_before c.args.row.now place r (omega arith) (omega arith) c.index-row-place.is in
    c.add_scaled-value.ensures
    ∙ ap (λ v. add_mod p (value r) (mul_mod p x v)) c.loop-place.invariant
    ∙ horner_step p (value r) x after
    ∙ ap (λ k. value_of p x (map value k)) (sym left)
