use Rattle.std.proofs.Common.{◌≡◌, map, length}
use Rattle.ffc_trees.specs.TreeLines.{is_same}
use Rattle.ffc_cktree.proofs.rows.are_same.Given as goal

abbrev pub invariant-loop-x : goal.invariant-loop-x
invariant-loop-x g l =
    is_same g.F.Field.ORDER (map g.F.Field.value l.left) (map g.F.Field.value l.right)
    ≡ is_same g.F.Field.ORDER (map g.F.Field.value l.a) (map g.F.Field.value l.b)

abbrev pub decreases-loop-x : goal.decreases-loop-x
decreases-loop-x g l = length l.left
