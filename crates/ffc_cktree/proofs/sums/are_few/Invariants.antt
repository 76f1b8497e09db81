use Rattle.std.proofs.Common.{◌≡◌, ◌+◌, ◌≤◌, true, drop}
use Rattle.ffc_trees.specs.TreeLines.{are_there, products_in}
use Rattle.ffc_cktree.proofs.sums.are_few.Given as goal

abbrev pub invariant-loop-multiple : goal.invariant-loop-multiple
invariant-loop-multiple g l = record {
  few : l.products ≤ 4194304;
  there : are_there l.lines (drop l.multiple-index l.multiples) ≡ true;
  so_far : l.products + products_in l.lines (drop l.multiple-index l.multiples) ≡ products_in l.lines l.multiples;
}
