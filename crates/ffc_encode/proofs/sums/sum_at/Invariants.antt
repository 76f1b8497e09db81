use Rattle.std.proofs.Common.{◌++◌, heap_items}
use Rattle.ffc_ring.specs.Polynomial.{SamePolynomial}
use Rattle.ffc_poly.specs.Ordered.{sum_of}
use Rattle.ffc_trees.specs.NodePolynomials.{node_polys, poly_at}
use Rattle.ffc_encode.specs.Opening.{IsReady}
use Rattle.ffc_encode.specs.Waiting.{owed, owed_size, AreOwed}
use Rattle.ffc_encode.proofs.sums.sum_at.Given as goal

abbrev pub invariant-loop-item : goal.invariant-loop-item
invariant-loop-item g l =
    let p = g.F.Field.ORDER in
    record {
      nodes : AreOwed l.table p (IsReady l.table l.known) (heap_items l.waiting);
      same : SamePolynomial p (sum_of l.parts.items ++ owed (node_polys l.table) (heap_items l.waiting)) (poly_at l.table l.id);
    }

abbrev pub decreases-loop-item : goal.decreases-loop-item
decreases-loop-item g l = owed_size l.table (heap_items l.waiting)
