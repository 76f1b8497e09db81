use Rattle.std.proofs.Common.{◌*◌, ◌%◌, get_or, sym, ap, ◌∙◌}
use Rattle.ffc_ring.specs.Monomial.{mono_value}
use Rattle.ffc_field.specs.Modular.{mul_mod}
use Rattle.ffc_poly.specs.Ordered.{point_of}
use Rattle.ffc_poly.proofs.Lists.{left_at, get_or-any}
use Rattle.ffc_ring.proofs.ValueLemmas.{power_taken}
use Rattle.ffc_poly.proofs.values.monomial_value.Goals as goal

pub loop-power-preserved : goal.loop-power-preserved
loop-power-preserved g c =
    let value = g.F.Field.value in
    let p = g.F.Field.ORDER in
    let point = point_of value c.args.at.now in
    let q = get_or c.args.powers.now c.loop-power.power-index (0, 0) in
    let left = left_at c.args.powers.now c.loop-power.power-index q c.loop-power-test.true (get_or-any c.args.powers.now c.loop-power.power-index (0, 0) _ c.loop-power-test.true) in
    power_taken p point (value c.loop-power.value) (value c.mul-value.result) (value c.coordinate.result) q _ c.coordinate.ensures
    (c.mul-value.ensures ∙ ap (mul_mod p (value c.loop-power.value)) c.power_of.ensures)
    ∙ ap (λ k. (value c.loop-power.value * mono_value point k) % p) (sym left) ∙ c.loop-power.invariant
