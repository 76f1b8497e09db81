use Rattle.std.proofs.Common.{◌≡◌, true, length}
use Rattle.std.specs.List.{list_all}
use Rattle.ffc_trees.specs.TreeLines.{is_there}
use Rattle.ffc_trees.specs.BitLines.{are_bits}
use Rattle.ffc_cktree.proofs.bits.are_bits.Given as goal

abbrev pub invariant-loop-x : goal.invariant-loop-x
invariant-loop-x g l = record {
  there : list_all (is_there l.lines) l.right ≡ true;
  so_far : are_bits g.F.Field.ORDER l.lines l.left l.right ≡ are_bits g.F.Field.ORDER l.lines l.variables l.numbers;
}

abbrev pub decreases-loop-x : goal.decreases-loop-x
decreases-loop-x g l = length l.left
