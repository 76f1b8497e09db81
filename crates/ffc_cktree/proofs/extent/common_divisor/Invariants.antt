use Rattle.std.proofs.Common.{◌≡◌}
use Rattle.ffc_trees.specs.BitLines.{common_divisor}
use Rattle.ffc_cktree.proofs.extent.common_divisor.Given as goal

abbrev pub invariant-loop-rest : goal.invariant-loop-rest
invariant-loop-rest l = common_divisor l.divisor l.rest ≡ common_divisor l.a l.b

abbrev pub decreases-loop-rest : goal.decreases-loop-rest
decreases-loop-rest l = l.rest
