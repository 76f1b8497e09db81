use Rattle.std.proofs.Common.{◌∙◌}
use Rattle.ffc_cktree.proofs.WalkLemmas.{closes_last, closes_nothing}
use Rattle.ffc_cktree.proofs.walk.closes.Goals as goal

pub returns-in-Some : goal.returns-in-Some
returns-in-Some g c = c.is_nonzero_constant.ensures ∙ closes_last g.F.Field.ORDER c.args.lines.now c.in-Some.line.now c.in-Some.ensures.value

pub returns-in-None : goal.returns-in-None
returns-in-None g c = closes_nothing g.F.Field.ORDER c.args.lines.now c.in-None.ensures.value
