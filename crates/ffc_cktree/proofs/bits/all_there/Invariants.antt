use Rattle.std.proofs.Common.{◌≡◌, drop}
use Rattle.std.specs.List.{list_all}
use Rattle.ffc_trees.specs.TreeLines.{is_there}
use Rattle.ffc_cktree.proofs.bits.all_there.Given as goal

abbrev pub invariant-loop-number : goal.invariant-loop-number
invariant-loop-number g l = list_all (is_there l.lines) (drop l.number-index l.numbers) ≡ list_all (is_there l.lines) l.numbers
