use Rattle.std.proofs.Common.{length, ◌++◌}
use Rattle.ffc_mono.specs.declared.mono.TheConstants.{DEGREE_LIMIT}
use Rattle.ffc_ring.specs.Polynomial.{SamePolynomial}
use Rattle.ffc_poly.specs.Ordered.{sum_of, IsOrdered}
use Rattle.ffc_poly.specs.Tails.{AreOrdered}
use Rattle.ffc_poly.proofs.tails.merged.Given as goal

abbrev pub invariant-loop-last : goal.invariant-loop-last
invariant-loop-last g l = record {
  left_is : AreOrdered g.F.Field.ORDER g.O.MonoOrder.cmp DEGREE_LIMIT l.left;
  whole_is : IsOrdered g.F.Field.ORDER g.O.MonoOrder.cmp DEGREE_LIMIT l.whole;
  same : SamePolynomial g.F.Field.ORDER (sum_of l.left ++ l.whole) (sum_of l.tails);
}

abbrev pub decreases-loop-last : goal.decreases-loop-last
decreases-loop-last g l = length l.left
