use Rattle.std.proofs.Common.{length}
use Rattle.ffc_cktree.proofs.bits.+are_settled.Given as goal

abbrev pub decreases-are_settled : goal.decreases-are_settled
decreases-are_settled g l = length l.others.now
