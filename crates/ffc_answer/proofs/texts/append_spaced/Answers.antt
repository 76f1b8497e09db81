use Rattle.std.proofs.Common.{◌++◌, ap, ◌∙◌}
use Rattle.ffc_answer.proofs.ListLemmas.{spaced_turn, spaced_first_turn}
use Rattle.ffc_answer.proofs.texts.append_spaced.Goals as goal
use Rattle.ffc_answer.proofs.texts.append_spaced.Goals.{then-i-gt0+in_ok-push, else-i-gt0}

pub loop-i-preserved : goal.loop-i-preserved
loop-i-preserved c =
    let text = c.in_ok-extend_from_slice.ensures.items ∙ ap (λ t. c.if-i-gt0.out.items ++ t) c.bytes.ensures in
    elim c.if-i-gt0.branch [
      | then-i-gt0+in_ok-push w ↦
          spaced_turn _ c.loop-i.out.items _ _ c.args.texts.now c.loop-i.i _ w.if-i-gt0.true c.loop-i-test.true c.index-texts-i.is c.loop-i.invariant (ap (λ o. o.items) w.out-is ∙ w.in_ok-push.ensures.items) text
      | else-i-gt0 w ↦
          spaced_first_turn _ c.loop-i.out.items _ _ c.args.texts.now c.loop-i.i _ w.if-i-gt0.false c.loop-i-test.true c.index-texts-i.is c.loop-i.invariant (ap (λ o. o.items) w.out-is) text
    ]
