use Rattle.std.proofs.Common.{◌≡◌, drop}
use Rattle.ffc_trees.specs.BitLines.{is_listed}
use Rattle.ffc_cktree.proofs.extent.is_listed.Given as goal

abbrev pub invariant-loop-y : goal.invariant-loop-y
invariant-loop-y l = is_listed (drop l.y-index l.xs) l.x ≡ is_listed l.xs l.x
