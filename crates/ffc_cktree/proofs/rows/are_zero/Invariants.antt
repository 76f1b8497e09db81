use Rattle.std.proofs.Common.{◌≡◌, map, drop}
use Rattle.ffc_trees.specs.TreeLines.{is_zero}
use Rattle.ffc_cktree.proofs.rows.are_zero.Given as goal

abbrev pub invariant-loop-coef : goal.invariant-loop-coef
invariant-loop-coef g l = is_zero g.F.Field.ORDER (map g.F.Field.value (drop l.coef-index l.row)) ≡ is_zero g.F.Field.ORDER (map g.F.Field.value l.row)
