use Rattle.ffc_cktree.proofs.ExtentLemmas.{above_low, above_high}
use Rattle.ffc_cktree.proofs.extent.above.Goals as goal

pub returns-then-residue-order-clause-value : goal.returns-then-residue-order-clause-value
returns-then-residue-order-clause-value c = above_low c.args.order c.args.residue c.requires c.if-residue-order.true

pub returns-else-residue-order-clause-value : goal.returns-else-residue-order-clause-value
returns-else-residue-order-clause-value c = above_high c.args.order c.args.residue c.requires c.if-residue-order.false
