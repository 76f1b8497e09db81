use Rattle.std.proofs.Common.{◌≡◌, map, take}
use Rattle.ffc_poly.specs.Ordered.{residues}
use Rattle.ffc_uni.specs.Univariate.{terms_in}
use Rattle.ffc_roots.proofs.sparse.terms_of.Given as goal

abbrev pub invariant-loop-place : goal.invariant-loop-place
invariant-loop-place g l =
    let value = g.F.Field.value in
    residues value l.terms.items ≡ terms_in l.variable (map value (take l.place l.coefs))
