use Rattle.std.proofs.Common.{◌≡◌, drop}
use Rattle.ffc_trees.specs.TreeLines.{are_there}
use Rattle.ffc_cktree.proofs.sums.are_there.Given as goal

abbrev pub invariant-loop-multiple : goal.invariant-loop-multiple
invariant-loop-multiple g l = are_there l.lines (drop l.multiple-index l.multiples) ≡ are_there l.lines l.multiples
