use Rattle.std.proofs.Common.{◌<◌, ◌≤◌, take}
use Rattle.ffc_mono.specs.declared.mono.TheConstants.{DEGREE_LIMIT}
use Rattle.ffc_poly.specs.Ordered.{AreWithin, HasDegree}
use Rattle.ffc_poly.proofs.products.greatest_degree.Given as goal

abbrev pub invariant-loop-i : goal.invariant-loop-i
invariant-loop-i g l = record {
  within : AreWithin l.greatest (take l.i l.terms);
  reached : 0 < l.greatest → HasDegree l.greatest (take l.i l.terms);
  limit : l.greatest ≤ DEGREE_LIMIT;
}
