use Rattle.std.proofs.Common.{◌≡◌, ◌%◌, ◌++◌, map, arith, ap, ◌∙◌}
use Rattle.ffc_refutation.specs.Written.{multiple_of}
use Rattle.ffc_values.specs.Written.{power_summands}
use Rattle.ffc_values.proofs.Steps.{power_remains, power_rest_next}
use Rattle.ffc_values.proofs.dividing.divide_power.Goals as goal

pub loop-left-preserved : goal.loop-left-preserved
loop-left-preserved g c =
    let p = g.F.Field.ORDER in
    let k = c.args.known in
    let m = c.args.rest.now ++ c.args.inverse.now in
    let one = g.F.Field.value c.loop-left.c in
    let some = c.loop-left-test.true in
    let reduced : g.F.Field.value c.of-value.result ≡ k.value % p = c.of-value.ensures ∙ ap (λ i. i % p) c.from.ensures in
    record {
      adds =
          power_remains p k m one c.loop-left.left (map multiple_of (power_summands p k m (g.F.Field.value c.args.coefficient) c.args.exponent)) c.args.sums.now c.loop-left.sums c.add.new.self c.residue.result c.in_ok-powers.powers
          (g.F.Field.value c.of-value.result) (g.F.Field.value c.mul-c.result) some c.loop-left.invariant.adds c.residue.ensures.value c.in_ok-powers.ensures c.in_ok-add.ensures.adds reduced c.mul-c.ensures;
      rest = power_rest_next p k.value one c.loop-left.left (g.F.Field.value c.of-value.result) (g.F.Field.value c.mul-c.result) some reduced c.mul-c.ensures ∙ c.loop-left.invariant.rest;
      few = omega (arith, c.in_ok-add.ensures.few, c.loop-left.invariant.few, some);
    }
