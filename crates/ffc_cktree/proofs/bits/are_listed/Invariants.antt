use Rattle.std.proofs.Common.{◌≡◌, drop}
use Rattle.std.specs.List.{list_all}
use Rattle.ffc_trees.specs.BitLines.{is_listed}
use Rattle.ffc_cktree.proofs.bits.are_listed.Given as goal

abbrev pub invariant-loop-x : goal.invariant-loop-x
invariant-loop-x l = list_all (is_listed l.variables) (drop l.x-index l.xs) ≡ list_all (is_listed l.variables) l.xs
