use Rattle.std.proofs.Common.{length}
use Rattle.ffc_ckpoly.proofs.merge.+sum_of.Given as goal

abbrev pub decreases-sum_of : goal.decreases-sum_of
decreases-sum_of g l = length l.terms.now
