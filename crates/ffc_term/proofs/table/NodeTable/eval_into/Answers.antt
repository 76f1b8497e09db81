use Rattle.std.proofs.Common.{◌∙◌}
use Rattle.ffc_term.proofs.ValueLemmas.{closed_children_within, eval_step}
use Rattle.ffc_term.proofs.table.NodeTable.eval_into.Goals as goal

pub value_at-requires-clause-within : goal.value_at-requires-clause-within
value_at-requires-clause-within c = λ n at.
    closed_children_within c.args.self.now c.args.nodes.now c.loop-id.id-index _ n c.requires.closed c.loop-id-test.true (c.loop-id.invariant.long ∙ c.requires.long) at

pub loop-id-preserved : goal.loop-id-preserved
loop-id-preserved c =
    eval_step _ _ c.args.nodes.now c.loop-id.id-index _ _ _ c.requires.closed c.value_at.ensures.valid c.requires.long c.loop-id-test.true c.loop-id.invariant c.value_at.ensures.value
