use Rattle.ffc_verify.proofs.WalkLemmas.{counted_first, counted_more, counted_smaller}
use Rattle.ffc_verify.proofs.script.count_checks.Goals as goal

pub checks-init : goal.checks-init
checks-init c = counted_first c.args.script.now c.in-Ok.reader c.in-Ok.ensures.fed

pub checks-smaller : goal.checks-smaller
checks-smaller c =
    let gives = c.in-Ok-true.ensures.check c.in-Ok-true.field-0-test in
    counted_smaller c.args.script.now c.requires c.checks.reader c.checks.count c.checks.invariant c.next_check.new.reader gives c.steps_are_few.ensures

pub checks-preserved : goal.checks-preserved
checks-preserved c =
    let gives = c.in-Ok-true.ensures.check c.in-Ok-true.field-0-test in
    counted_more c.args.script.now c.requires c.checks.reader c.checks.count c.checks.invariant c.next_check.new.reader gives c.steps_are_few.ensures
