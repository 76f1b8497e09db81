use Rattle.ffc_trials.proofs.CountingLemmas.{with_carry, without_carry}
use Rattle.ffc_trials.proofs.counting.advance.Goals as goal

pub returns-then-not-advance_one : goal.returns-then-not-advance_one
returns-then-not-advance_one c =
    without_carry c.args.table.now c.args.constants.now c.loop-constant.constant-index c.loop-constant-test.true c.loop-constant.values c.advance_one.new.values _
    c.advance_one.result c.advance_one.ensures.carry c.advance_one.ensures.set c.loop-constant.invariant c.if-not-advance_one.true

pub loop-constant-preserved : goal.loop-constant-preserved
loop-constant-preserved c =
    with_carry c.args.table.now c.args.constants.now c.loop-constant.constant-index c.loop-constant-test.true c.loop-constant.values c.advance_one.new.values _
    c.advance_one.result c.advance_one.ensures.carry c.advance_one.ensures.set c.loop-constant.invariant c.if-not-advance_one.false
