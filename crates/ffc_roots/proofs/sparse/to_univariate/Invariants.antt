use Rattle.std.proofs.Common.{map, take}
use Rattle.ffc_ring.specs.Polynomial.{SamePolynomial}
use Rattle.ffc_uni.specs.Univariate.{terms_in}
use Rattle.ffc_roots.proofs.sparse.to_univariate.Given as goal

abbrev pub invariant-loop-i : goal.invariant-loop-i
invariant-loop-i g l = SamePolynomial g.F.Field.ORDER (terms_in l.variable (map g.F.Field.value l.row.items)) (take l.i l.f)
