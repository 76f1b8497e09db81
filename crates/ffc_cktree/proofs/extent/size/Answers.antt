use Rattle.ffc_cktree.proofs.ExtentLemmas.{size_low, size_high}
use Rattle.ffc_cktree.proofs.extent.size.Goals as goal

pub returns-then-residue-order : goal.returns-then-residue-order
returns-then-residue-order c = size_low c.args.order c.args.residue c.requires c.if-residue-order.true

pub returns-else-residue-order : goal.returns-else-residue-order
returns-else-residue-order c = size_high c.args.order c.args.residue c.requires c.if-residue-order.false
