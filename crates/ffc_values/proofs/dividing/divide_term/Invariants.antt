use Rattle.std.proofs.Common.{◌+◌, ◌≤◌, length, map}
use Rattle.ffc_ring.specs.Monomial.{degree}
use Rattle.ffc_refutation.specs.Written.{multiple_of}
use Rattle.ffc_values.specs.Written.{term_summands}
use Rattle.ffc_values.specs.Steps.{Remains}
use Rattle.ffc_values.proofs.dividing.divide_term.Given as goal

abbrev pub invariant-loop-power : goal.invariant-loop-power
invariant-loop-power g l = record {
  adds : Remains
      (map multiple_of (term_summands g.F.Field.ORDER l.fn.knowns l.fn.inverse (g.F.Field.value l.fn.coefficient) l.fn.powers))
      (map multiple_of (term_summands g.F.Field.ORDER l.fn.knowns l.fn.inverse (g.F.Field.value l.c) l.left))
      l.fn.sums l.sums;
  few : length l.sums.lines.items + degree l.left ≤ length l.fn.sums.lines.items + degree l.fn.powers;
}

abbrev pub decreases-loop-power : goal.decreases-loop-power
decreases-loop-power g l = length l.left
