use Rattle.std.proofs.Common.{All, subst, take_all}
use Rattle.std.proofs.lemmas.List.Elements.{All-more}
use Rattle.ffc_term.specs.Tables.{IsBooleanAt}
use Rattle.ffc_term.proofs.fitting.are_boolean.Goals as goal

pub loop-id-preserved : goal.loop-id-preserved
loop-id-preserved c =
    All-more (IsBooleanAt c.args.table.now) c.args.ids.now c.loop-id.id-index 0 c.loop-id-test.true c.loop-id.invariant (c.is_boolean.ensures.0 c.if-not-is_boolean.false)

pub returns : goal.returns
returns c = λ _. subst (All (IsBooleanAt c.args.table.now)) (take_all c.loop-id.id-index c.args.ids.now c.loop-id-test.false) c.loop-id.invariant
