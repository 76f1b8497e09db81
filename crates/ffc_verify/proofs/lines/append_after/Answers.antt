use Rattle.ffc_verify.proofs.LineLemmas.{after_turn}
use Rattle.ffc_verify.proofs.lines.append_after.Goals as goal

pub loop-text-preserved : goal.loop-text-preserved
loop-text-preserved c =
    after_turn c.loop-text.out.items c.push.new.self.items c.extend_from_slice.new.self.items c.args.out.now.items c.args.texts.now c.loop-text.text-index c.text-item.result c.bytes.result.now c.loop-text-test.true c.text-item.is
    c.loop-text.invariant c.in_ok-push.ensures.items c.in_ok-extend_from_slice.ensures.items c.bytes.ensures
