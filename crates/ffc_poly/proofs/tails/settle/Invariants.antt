use Rattle.std.proofs.Common.{length}
use Rattle.ffc_mono.specs.declared.mono.TheConstants.{DEGREE_LIMIT}
use Rattle.ffc_ring.specs.Polynomial.{SamePolynomial}
use Rattle.ffc_poly.specs.Ordered.{sum_of}
use Rattle.ffc_poly.specs.Tails.{AreOrdered}
use Rattle.ffc_poly.proofs.tails.settle.Given as goal

abbrev pub invariant-loop : goal.invariant-loop
invariant-loop g l = record {
  ordered : AreOrdered g.F.Field.ORDER g.O.MonoOrder.cmp DEGREE_LIMIT l.tails.items;
  same : SamePolynomial g.F.Field.ORDER (sum_of l.tails.items) (sum_of l.fn.tails.items);
}

abbrev pub decreases-loop : goal.decreases-loop
decreases-loop g l = length l.tails.items
