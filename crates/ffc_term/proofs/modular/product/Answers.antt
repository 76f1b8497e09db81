use Rattle.std.proofs.Common.{◌*◌}
use Rattle.std.proofs.lemmas.List.Sums.{fold_more}
use Rattle.ffc_term.specs.Values.{residue_in}
use Rattle.ffc_term.proofs.ListLemmas.{modular_product}
use Rattle.ffc_term.proofs.modular.product.Goals as goal

pub loop-id-preserved : goal.loop-id-preserved
loop-id-preserved g c =
    modular_product g.F.Field.ORDER (g.F.Field.value c.mul-product.result) (g.F.Field.value c.loop-id.product) (g.F.Field.value c.element.result) _ _ _ c.mul-product.ensures c.loop-id.invariant c.element.ensures (fold_more (λ a x. a * residue_in c.args.known.now x) 1 c.args.ids.now c.loop-id.id-index 0 c.loop-id-test.true)
