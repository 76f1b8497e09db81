use Rattle.ffc_search.proofs.AboveLemmas.{stays_both, stays_pushed}
use Rattle.ffc_search.proofs.rounds.round.Goals as goal

pub returns-clause-above : goal.returns-clause-above
returns-clause-above g c =
    stays_both c.args.task.floor c.args.stack.now c.push_within.new.self c.take_turns.new.stack
    (stays_pushed c.args.task.floor c.args.stack.now c.push_within.new.self c.as_slice.result.now c.in_ok-progress.ensures.pushed)
    c.take_turns.ensures.above

pub returns-in_err-walk-2-clause-above : goal.returns-in_err-walk-2-clause-above
returns-in_err-walk-2-clause-above g c =
    stays_pushed c.args.task.floor c.args.stack.now c.push_within.new.self c.as_slice.result.now c.in_ok-progress.ensures.pushed

pub returns-in_err-reasoning-clause-above : goal.returns-in_err-reasoning-clause-above
returns-in_err-reasoning-clause-above g c =
    stays_pushed c.args.task.floor c.args.stack.now c.push_within.new.self c.as_slice.result.now c.in_ok-progress.ensures.pushed

pub returns-in_err-values-clause-above : goal.returns-in_err-values-clause-above
returns-in_err-values-clause-above g c =
    stays_both c.args.task.floor c.args.stack.now c.push_within.new.self c.take_turns.new.stack
    (stays_pushed c.args.task.floor c.args.stack.now c.push_within.new.self c.as_slice.result.now c.in_ok-progress.ensures.pushed)
    c.take_turns.ensures.above

pub returns-in_err-outcome-clause-above : goal.returns-in_err-outcome-clause-above
returns-in_err-outcome-clause-above g c =
    stays_both c.args.task.floor c.args.stack.now c.push_within.new.self c.take_turns.new.stack
    (stays_pushed c.args.task.floor c.args.stack.now c.push_within.new.self c.as_slice.result.now c.in_ok-progress.ensures.pushed)
    c.take_turns.ensures.above
