use Rattle.std.proofs.Common.{◌∙◌, ◌-◌, Ok, sym, ap}
use Rattle.ffc_base.specs.Metering.{total}
use Rattle.ffc_check.specs.Judged.{judged_check}
use Rattle.ffc_linear.proofs.SystemLemmas.{not_linear, order_known}
use Rattle.ffc_linear.proofs.deciding.linear.Goals as goal

pub returns-in_default-clause-answer : goal.returns-in_default-clause-answer
returns-in_default-clause-answer g c =
    not_linear (judged_check c.args.check.now) (c.args.meter.now.budget - total c.args.meter.now) (c.of.ensures.none (c.in_ok-conjunction.was ∙ ap Ok c.in_default.is))

pub decided-requires-clause-order : goal.decided-requires-clause-order
decided-requires-clause-order g c = order_known (judged_check c.args.check.now) g.F.Field.ORDER c.requires.valid (sym c.field_order.ensures ∙ c.if-field_order-ORDER.true ∙ c.ORDER.ensures)
