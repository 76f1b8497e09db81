use Rattle.std.proofs.Common.{◌-◌, ◌≤◌, Err, ap, arith}
use Rattle.ffc_base.specs.Metering.{total}
use Rattle.ffc_check.specs.Judged.{judged_check}
use Rattle.ffc_single.proofs.DecisionLemmas.{none_left}
use Rattle.ffc_single.proofs.deciding.single.Goals as goal

pub returns-in-Ok-clause-answer : goal.returns-in-Ok-clause-answer
returns-in-Ok-clause-answer g c = c.in-Ok.ensures.answer (c.args.meter.now.budget - total c.args.meter.now)

pub returns-in-Spent-clause-answer : goal.returns-in-Spent-clause-answer
returns-in-Spent-clause-answer g c = λ d.
    (let left = c.left-left.ensures in
    let within : total c.args.meter.now ≤ c.args.meter.now.budget = omega arith in
    none_left (judged_check c.args.check.now) c.args.meter.now within (c.in-Err.ensures.units (ap Err c.in-Spent.is)) d)
