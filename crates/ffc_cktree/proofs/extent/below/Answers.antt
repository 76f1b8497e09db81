use Rattle.ffc_cktree.proofs.ExtentLemmas.{below_low, below_high}
use Rattle.ffc_cktree.proofs.extent.below.Goals as goal

pub returns-then-residue-order-clause-value : goal.returns-then-residue-order-clause-value
returns-then-residue-order-clause-value c = below_low c.args.order c.args.residue c.requires c.if-residue-order.true

pub returns-else-residue-order-clause-value : goal.returns-else-residue-order-clause-value
returns-else-residue-order-clause-value c = below_high c.args.order c.args.residue c.requires c.if-residue-order.false
