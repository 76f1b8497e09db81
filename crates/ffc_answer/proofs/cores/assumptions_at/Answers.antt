use Rattle.std.proofs.Common.{sym, ap, ◌∙◌}
use Rattle.ffc_answer.specs.Seen.{assumed_texts}
use Rattle.ffc_answer.proofs.ListLemmas.{assumed_turn, unnamed_more}
use Rattle.ffc_answer.proofs.cores.assumptions_at.Goals as goal
use Rattle.ffc_answer.proofs.cores.assumptions_at.Goals.{in-Some+in_ok-copy_of+in_ok-push, in_default}

pub loop-number-preserved : goal.loop-number-preserved
loop-number-preserved c =
    elim c.match-assumption_at.branch [
      | in-Some+in_ok-copy_of+in_ok-push w ↦
          assumed_turn (assumed_texts c.args.assertions c.args.asked.now) c.args.numbers.now c.loop-number.number-index _ c.loop-number.texts.items _ _ c.loop-number-test.true w.in-Some.ensures c.loop-number.invariant
          (ap (λ v. v.items) w.texts-is ∙ w.in_ok-push.ensures.items) (w.in_ok-copy_of.ensures ∙ w.bytes.ensures)
      | in_default w ↦
          ap (λ v. v.items) w.texts-is ∙ c.loop-number.invariant ∙ sym (unnamed_more (assumed_texts c.args.assertions c.args.asked.now) c.args.numbers.now c.loop-number.number-index c.loop-number-test.true (sym w.in_default.ensures))
    ]
