use Rattle.std.proofs.Common.{◌≡◌, ◌++◌, true, drop}
use Rattle.ffc_ring.specs.Polynomial.{SamePolynomial}
use Rattle.ffc_trees.specs.TreeLines.{are_there, sum_of_multiples}
use Rattle.ffc_cktree.specs.Lines.{all_low}
use Rattle.ffc_cktree.proofs.sums.total.Given as goal

abbrev pub invariant-loop-multiple : goal.invariant-loop-multiple
invariant-loop-multiple g l = record {
  there : are_there l.lines (drop l.multiple-index l.multiples) ≡ true;
  low : all_low (drop l.multiple-index l.multiples) ≡ true;
  so_far : SamePolynomial g.F.Field.ORDER (l.sum ++ sum_of_multiples l.lines (drop l.multiple-index l.multiples)) (sum_of_multiples l.lines l.multiples);
}
