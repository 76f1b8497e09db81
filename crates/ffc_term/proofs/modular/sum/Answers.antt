use Rattle.std.proofs.Common.{◌+◌}
use Rattle.std.proofs.lemmas.List.Sums.{fold_more}
use Rattle.ffc_term.specs.Values.{residue_in}
use Rattle.ffc_term.proofs.ListLemmas.{modular_sum}
use Rattle.ffc_term.proofs.modular.sum.Goals as goal

pub loop-id-preserved : goal.loop-id-preserved
loop-id-preserved g c =
    modular_sum g.F.Field.ORDER (g.F.Field.value c.add-sum.result) (g.F.Field.value c.loop-id.sum) (g.F.Field.value c.element.result) _ _ _ c.add-sum.ensures c.loop-id.invariant c.element.ensures (fold_more (λ a x. a + residue_in c.args.known.now x) 0 c.args.ids.now c.loop-id.id-index 0 c.loop-id-test.true)
