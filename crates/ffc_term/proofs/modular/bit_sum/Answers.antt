use Rattle.std.proofs.Common.{◌≡◌, ◌+◌, ◌*◌, ◌^◌, ◌%◌, get_or, refl}
use Rattle.ffc_term.specs.Values.{residue_in}
use Rattle.ffc_term.proofs.ListLemmas.{modular_sum, modular_product, bit_sum_more, twice_power}
use Rattle.ffc_term.proofs.modular.bit_sum.Goals as goal

pub loop-id-preserved : goal.loop-id-preserved
loop-id-preserved g c =
    let p = g.F.Field.ORDER in
    let f = residue_in c.args.known.now in
    let i = c.loop-id.id-index in
    let r = f (get_or c.args.ids.now i 0) in
    let weighed : g.F.Field.value c.mul.result ≡ (2 ^ i * r) % p = modular_product p (g.F.Field.value c.mul.result) (g.F.Field.value c.loop-id.weight) (g.F.Field.value c.element.result) (2 ^ i) r (2 ^ i * r) c.mul.ensures c.loop-id.invariant.weight c.element.ensures refl in
    record {
      sum = modular_sum p (g.F.Field.value c.add-sum.result) (g.F.Field.value c.loop-id.sum) (g.F.Field.value c.mul.result) _ _ _ c.add-sum.ensures c.loop-id.invariant.sum weighed (bit_sum_more f c.args.ids.now i c.loop-id-test.true);
      weight = modular_sum p (g.F.Field.value c.add-weight.result) (g.F.Field.value c.loop-id.weight) (g.F.Field.value c.loop-id.weight) (2 ^ i) (2 ^ i) (2 ^ (i + 1)) c.add-weight.ensures c.loop-id.invariant.weight c.loop-id.invariant.weight (twice_power i);
    }
