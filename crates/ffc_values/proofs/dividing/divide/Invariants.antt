use Rattle.std.proofs.Common.{◌+◌, ◌*◌, ◌≤◌, length, map, drop}
use Rattle.ffc_refutation.specs.Written.{multiple_of}
use Rattle.ffc_values.specs.Written.{quotients}
use Rattle.ffc_values.specs.Steps.{Remains}
use Rattle.ffc_values.proofs.dividing.divide.Given as goal

abbrev pub invariant-loop-place : goal.invariant-loop-place
invariant-loop-place g l = record {
  adds : Remains
      (map multiple_of (quotients g.F.Field.ORDER l.fn.knowns l.fn.inverse l.fn.polynomial))
      (map multiple_of (quotients g.F.Field.ORDER l.fn.knowns l.fn.inverse (drop l.place l.fn.polynomial)))
      l.fn.sums l.sums;
  few : length l.sums.lines.items ≤ length l.fn.sums.lines.items + 1024 * l.place;
}
