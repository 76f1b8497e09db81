use Rattle.std.proofs.Common.{All, subst, take_all, length, ◌<◌, ℕ}
use Rattle.std.proofs.lemmas.List.Elements.{All-more}
use Rattle.rows_solver.proofs.tables.are_nodes.Goals as goal

pub loop-id-preserved : goal.loop-id-preserved
loop-id-preserved c =
    All-more (λ (id : ℕ). id < length c.args.table.now) c.args.ids.now c.loop-id.id-index 0 c.loop-id-test.true c.loop-id.invariant (c.is_node.ensures.0 c.if-not-is_node.false)

pub returns : goal.returns
returns c = λ _. subst (All (λ (id : ℕ). id < length c.args.table.now)) (take_all c.loop-id.id-index c.args.ids.now c.loop-id-test.false) c.loop-id.invariant
