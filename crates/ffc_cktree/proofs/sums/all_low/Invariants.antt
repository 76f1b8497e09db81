use Rattle.std.proofs.Common.{◌≡◌, drop}
use Rattle.ffc_cktree.specs.Lines.{all_low}
use Rattle.ffc_cktree.proofs.sums.all_low.Given as goal

abbrev pub invariant-loop-multiple : goal.invariant-loop-multiple
invariant-loop-multiple l = all_low (drop l.multiple-index l.multiples) ≡ all_low l.multiples
