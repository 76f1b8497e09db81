use Rattle.std.proofs.Common.{◌++◌, sum_by, All}
use Rattle.ffc_ring.specs.Polynomial.{SamePolynomial}
use Rattle.ffc_trees.specs.NodePolynomials.{node_polys, poly_at}
use Rattle.ffc_ckpoly.specs.Parts.{owed}
use Rattle.ffc_ckpoly.specs.Opening.{size_at, waiting_ids, IsThere, IsOpenable}
use Rattle.ffc_ckpoly.proofs.opening.opened_sum.Given as goal

abbrev pub invariant-loop-item : goal.invariant-loop-item
invariant-loop-item g l =
    let value = g.F.Field.value in
    let p = g.F.Field.ORDER in
    record {
      nodes : All (IsOpenable l.table p (IsThere l.known l.made)) (waiting_ids l.waiting.items);
      owed : SamePolynomial p (l.sum ++ owed value (node_polys l.table) l.waiting.items) (poly_at l.table l.id);
    }

abbrev pub decreases-loop-item : goal.decreases-loop-item
decreases-loop-item g l = sum_by (size_at l.table) (waiting_ids l.waiting.items)
