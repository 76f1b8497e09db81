use Rattle.std.proofs.Common.{◌≡◌, ◌+◌, ◌*◌, ◌^◌, ◌≤◌, drop}
use Rattle.ffc_trees.specs.BitLines.{sum_above, sum_below}
use Rattle.ffc_ckpoly.specs.Sorted.{residues}
use Rattle.ffc_cktree.proofs.extent.extent_of.Given as goal

abbrev pub invariant-loop-term : goal.invariant-loop-term
invariant-loop-term g l =
    let p = g.F.Field.ORDER in
    let value = g.F.Field.value in
    record {
      above : l.extent.above + sum_above p (residues value (drop l.term-index l.terms)) ≡ sum_above p (residues value l.terms);
      below : l.extent.below + sum_below p (residues value (drop l.term-index l.terms)) ≡ sum_below p (residues value l.terms);
      above_small : l.extent.above ≤ 2 ^ 63 * l.term-index;
      below_small : l.extent.below ≤ 2 ^ 63 * l.term-index;
    }
