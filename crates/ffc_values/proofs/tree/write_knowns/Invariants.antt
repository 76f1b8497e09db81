use Rattle.std.proofs.Common.{◌≡◌, ◌+◌, ◌*◌, ◌≤◌, ◌++◌, [], All, reverse, length, drop, vec_len}
use Rattle.ffc_refutation.specs.Written.{IsNumbered}
use Rattle.ffc_values.specs.Written.{next_line, known_lines, knowns_of}
use Rattle.ffc_values.proofs.tree.write_knowns.Given as goal

abbrev pub invariant-loop-value : goal.invariant-loop-value
invariant-loop-value l = record {
  knowns : l.knowns.items ++ knowns_of (next_line l.sums) (drop l.place l.fn.variables) (reverse l.left.items) ≡ knowns_of (next_line l.fn.sums) l.fn.variables l.fn.determined.items;
  first : l.sums.first ≡ l.fn.sums.first;
  lines : l.sums.lines.items ++ known_lines (next_line l.sums) (reverse l.left.items) ≡ l.fn.sums.lines.items ++ known_lines (next_line l.fn.sums) l.fn.determined.items;
  pending : l.sums.pending.items ≡ [];
  numbered : All (λ d. All IsNumbered d.summands.items) (reverse l.left.items) → All (λ d. All IsNumbered d.summands.items) l.fn.determined.items;
  terms : All (λ d. length d.summands.items ≤ 4096) (reverse l.left.items);
  place : l.place + length l.left.items ≡ length l.fn.determined.items;
  few : next_line l.sums + 4097 * length l.left.items ≤ next_line l.fn.sums + 4097 * length l.fn.determined.items;
}

abbrev pub decreases-loop-value : goal.decreases-loop-value
decreases-loop-value l = vec_len l.left
