use Rattle.std.proofs.Common.{◌≡◌, map, drop}
use Rattle.ffc_trees.specs.TreeLines.{coefficients_of}
use Rattle.ffc_ckpoly.specs.Sorted.{residues}
use Rattle.ffc_ckpoly.proofs.univariate.coefficients_of.Given as goal

abbrev pub invariant-loop-place : goal.invariant-loop-place
invariant-loop-place g l =
    let value = g.F.Field.value in
    map value l.coefs.items ≡ coefficients_of (residues value (drop l.place l.terms))
