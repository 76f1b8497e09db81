use Rattle.ffc_stack.proofs.MarkLemmas.{marked_by_more}
use Rattle.ffc_stack.proofs.generators.mark_parts.Goals as goal

pub loop-number-preserved : goal.loop-number-preserved
loop-number-preserved g c =
    marked_by_more c.args.parts.now c.loop-number.number c.index-parts-number.result c.args.reached.now c.loop-number.reached c.mark.new.reached
    c.loop-number-test.true c.loop-number.invariant c.mark.ensures
