use Rattle.std.proofs.Common.{◌+◌, ◌≤◌, All, map, reverse, length, vec_len}
use Rattle.ffc_refutation.specs.Written.{multiple_of, IsNumbered}
use Rattle.ffc_values.specs.Steps.{Remains}
use Rattle.ffc_values.proofs.sums.Sums.add_all.Given as goal

abbrev pub invariant-loop-line : goal.invariant-loop-line
invariant-loop-line l = record {
  adds : Remains (map multiple_of l.fn.summands.items) (map multiple_of (reverse l.left.items)) l.fn.self l.self;
  numbered : All IsNumbered (reverse l.left.items) → All IsNumbered l.fn.summands.items;
  few : length l.self.lines.items + length l.left.items ≤ length l.fn.self.lines.items + length l.fn.summands.items;
}

abbrev pub decreases-loop-line : goal.decreases-loop-line
decreases-loop-line l = vec_len l.left
