use Rattle.std.proofs.Common.{◌≡◌, ◌+◌, ◌^◌, ◌<◌, [], ◌++◌, All, map, reverse, length, vec_len}
use Rattle.ffc_refutation.specs.Written.{multiple_of, sums_tree, IsNumbered}
use Rattle.ffc_refutation.proofs.combination.with_tree.Given as goal

abbrev pub invariant-loop-summand : goal.invariant-loop-summand
invariant-loop-summand l = record {
  tree : l.sums.lines.items ++ sums_tree l.sums.next l.sums.pending.items (map multiple_of (reverse l.left.items)) ≡ l.fn.lines.items ++ sums_tree l.fn.first [] (map multiple_of l.fn.summands.items);
  numbered : All IsNumbered (reverse l.left.items) → All IsNumbered l.fn.summands.items;
  room : l.sums.next + length l.left.items < 2 ^ 32;
}

abbrev pub decreases-loop-summand : goal.decreases-loop-summand
decreases-loop-summand l = vec_len l.left
