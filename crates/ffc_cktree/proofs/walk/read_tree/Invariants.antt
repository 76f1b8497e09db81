use Rattle.std.proofs.Common.{◌≡◌, drop}
use Rattle.std.specs.List.{AllByRecursion}
use Rattle.ffc_cert.specs.Ranges.{IsLine}
use Rattle.ffc_trees.specs.TreeLines.{limits}
use Rattle.ffc_trees.specs.Trees.{read_from, tree_read}
use Rattle.ffc_cktree.proofs.walk.read_tree.Given as goal

abbrev pub invariant-loop-at : goal.invariant-loop-at
invariant-loop-at g l = record {
  ranges : AllByRecursion IsLine (drop l.at l.lines);
  so_far : read_from limits g.F.Field.ORDER l.walk l.at (drop l.at l.lines) ≡ tree_read limits g.F.Field.ORDER l.fn.first.items l.lines;
}
