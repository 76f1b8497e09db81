use Rattle.std.proofs.Common.{◌∙◌}
use Rattle.ffc_check.proofs.arena.append.Goals as goal

pub returns-in_err-push-clause-longer : goal.returns-in_err-push-clause-longer
returns-in_err-push-clause-longer c = (c.loop-literal.literal-index, c.in_err-push.ensures.items ∙ c.loop-literal.invariant)
