use Rattle.ffc_dense.proofs.TableLemmas.{held_subtracted}
use Rattle.ffc_dense.proofs.table.subtract_held.Goals as goal

pub returns-clause-difference : goal.returns-clause-difference
returns-clause-difference g c done gs all there =
    held_subtracted g.F.Field.value g.F.Field.ORDER g.O.MonoOrder.cmp gs (g.F.Field.value c.args.c) c.args.line c.args.m.now c.args.q.now c.args.dense.now.0 c.args.kept.now c.args.slot c.args.dense.now.1 c.subtract_kept.new.dense.1 c.requires.held (c.subtract_kept.ensures.difference done) all there
