use Rattle.std.proofs.Common.{◌≡◌, ◌++◌, true, map, drop}
use Rattle.ffc_trees.specs.TreeLines.{are_below}
use Rattle.ffc_cktree.proofs.rows.elements.Given as goal

abbrev pub invariant-loop-coef : goal.invariant-loop-coef
invariant-loop-coef g l = record {
  below : are_below g.F.Field.ORDER (drop l.coef-index l.coefs) ≡ true;
  so_far : map g.F.Field.value l.row.items ++ drop l.coef-index l.coefs ≡ l.coefs;
}
