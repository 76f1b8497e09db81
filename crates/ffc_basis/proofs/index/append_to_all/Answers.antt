use Rattle.std.proofs.Common.{◌++◌, ◌∷◌, []}
use Rattle.ffc_basis.specs.Indexing.{listed}
use Rattle.ffc_basis.proofs.IndexLemmas.{one_variable_more, IsMonomial-take}
use Rattle.ffc_basis.proofs.index.append_to_all.Goals as goal

pub drop_from_all-requires : goal.drop_from_all-requires
drop_from_all-requires c = IsMonomial-take 0 c.loop-count.count c.args.powers.now c.requires

pub loop-count-preserved : goal.loop-count-preserved
loop-count-preserved c = λ y.
    one_variable_more c.args.powers.now c.loop-count.count _ c.requires c.loop-count-test.true (λ ks. ks ++ c.args.line ∷ []) y
    (listed c.args.lists.now y) (listed c.loop-count.lists y) (listed c.append.new.lists y) (c.loop-count.invariant y) (c.in-Ok.ensures.ok y)
