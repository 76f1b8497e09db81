use Rattle.ffc_trees.specs.Closing.{written_step}
use Rattle.ffc_lemmatree.specs.Written.{IsNormalPair}
use Rattle.ffc_lemmatree.proofs.Writing.{all_with, mapped_with}
use Rattle.ffc_lemmatree.proofs.roots.write_steps.Goals as goal

pub loop-pair-preserved : goal.loop-pair-preserved
loop-pair-preserved g c =
    let xs = c.args.pairs.now in
    let i = c.loop-pair.pair-index in
    let x = c.pair-item.result in
    record {
      lines = mapped_with written_step c.args.lines.now.items c.loop-pair.lines.items c.push.new.self.items c.in_ok-step_line.field-0 xs i x c.loop-pair-test.true c.pair-item.is c.loop-pair.invariant.lines c.in_ok-push.ensures.items c.in_ok-step_line.ensures.line;
      normal = all_with (IsNormalPair g.F.Field.ORDER) xs i x c.loop-pair-test.true c.pair-item.is c.loop-pair.invariant.normal c.in_ok-step_line.ensures.normal;
    }
