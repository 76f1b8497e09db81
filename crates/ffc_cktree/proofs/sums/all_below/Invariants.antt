use Rattle.std.proofs.Common.{◌≡◌, drop}
use Rattle.ffc_trees.specs.TreeLines.{are_residues}
use Rattle.ffc_cktree.proofs.sums.all_below.Given as goal

abbrev pub invariant-loop-multiple : goal.invariant-loop-multiple
invariant-loop-multiple l = are_residues l.order (drop l.multiple-index l.multiples) ≡ are_residues l.order l.multiples
