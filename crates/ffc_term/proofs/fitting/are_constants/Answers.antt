use Rattle.std.proofs.Common.{All, subst, take_all}
use Rattle.std.proofs.lemmas.List.Elements.{All-more}
use Rattle.ffc_term.specs.Nodes.{IsConstantAt}
use Rattle.ffc_term.proofs.fitting.are_constants.Goals as goal

pub loop-id-preserved : goal.loop-id-preserved
loop-id-preserved c = All-more (IsConstantAt c.args.table.now) c.args.ids.now c.loop-id.id-index 0 c.loop-id-test.true c.loop-id.invariant (c.is_constant.ensures c.if-not-is_constant.false)

pub returns : goal.returns
returns c = λ _. subst (All (IsConstantAt c.args.table.now)) (take_all c.loop-id.id-index c.args.ids.now c.loop-id-test.false) c.loop-id.invariant
