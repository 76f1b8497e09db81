use Rattle.ffc_basis.specs.Indexing.{listed, without_last}
use Rattle.ffc_basis.proofs.IndexLemmas.{one_variable_more}
use Rattle.ffc_basis.proofs.index.drop_from_all.Goals as goal

pub loop-power-preserved : goal.loop-power-preserved
loop-power-preserved c = λ y.
    one_variable_more c.args.powers.now c.loop-power.power-index _ c.requires c.loop-power-test.true without_last y
    (listed c.args.lists.now y) (listed c.loop-power.lists y) (listed c.drop_last.new.lists y) (c.loop-power.invariant y) (c.drop_last.ensures y)
