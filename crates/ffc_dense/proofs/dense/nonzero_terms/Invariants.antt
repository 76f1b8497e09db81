use Rattle.std.proofs.Common.{◌+◌, ◌≤◌, ◌++◌, drop}
use Rattle.ffc_ring.specs.Polynomial.{SamePolynomial}
use Rattle.ffc_poly.specs.Ordered.{values_of, residues}
use Rattle.ffc_dense.specs.Columns.{listed}
use Rattle.ffc_dense.proofs.dense.nonzero_terms.Given as goal

abbrev pub invariant-loop-place : goal.invariant-loop-place
invariant-loop-place g l = record {
  same : SamePolynomial g.F.Field.ORDER
      (residues g.F.Field.value l.terms.items ++ listed (values_of g.F.Field.value l.coefficients) l.columns.0 (drop l.place l.columns.1))
      (listed (values_of g.F.Field.value l.coefficients) l.columns.0 (drop l.from l.columns.1));
  long : l.terms.len ≤ l.place;
}
