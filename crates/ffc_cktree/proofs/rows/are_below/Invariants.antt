use Rattle.std.proofs.Common.{◌≡◌, drop}
use Rattle.ffc_trees.specs.TreeLines.{are_below}
use Rattle.ffc_cktree.proofs.rows.are_below.Given as goal

abbrev pub invariant-loop-coef : goal.invariant-loop-coef
invariant-loop-coef l = are_below l.order (drop l.coef-index l.coefs) ≡ are_below l.order l.coefs
