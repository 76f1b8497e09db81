use Rattle.std.proofs.Common.{◌≡◌, ◌+◌, ◌≤◌, ◌++◌, length, map}
use Rattle.ffc_refutation.specs.Written.{multiple_of}
use Rattle.ffc_values.specs.Written.{power_summands, power_rest}
use Rattle.ffc_values.specs.Steps.{Remains}
use Rattle.ffc_values.proofs.dividing.divide_power.Given as goal

abbrev pub invariant-loop-left : goal.invariant-loop-left
invariant-loop-left g l = record {
  adds : Remains
      (map multiple_of (power_summands g.F.Field.ORDER l.fn.known (l.fn.rest ++ l.fn.inverse) (g.F.Field.value l.fn.coefficient) l.fn.exponent))
      (map multiple_of (power_summands g.F.Field.ORDER l.fn.known (l.fn.rest ++ l.fn.inverse) (g.F.Field.value l.c) l.left))
      l.fn.sums l.sums;
  rest : power_rest g.F.Field.ORDER l.fn.known.value (g.F.Field.value l.c) l.left ≡ power_rest g.F.Field.ORDER l.fn.known.value (g.F.Field.value l.fn.coefficient) l.fn.exponent;
  few : length l.sums.lines.items + l.left ≤ length l.fn.sums.lines.items + l.fn.exponent;
}

abbrev pub decreases-loop-left : goal.decreases-loop-left
decreases-loop-left g l = l.left
