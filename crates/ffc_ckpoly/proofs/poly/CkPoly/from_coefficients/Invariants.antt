use Rattle.std.proofs.Common.{◌≡◌, ◌++◌, map, drop}
use Rattle.ffc_uni.specs.Univariate.{terms_from, terms_in}
use Rattle.ffc_ckpoly.specs.Flat.{cut, Parts, HaveMonomials}
use Rattle.ffc_ckpoly.proofs.poly.CkPoly.from_coefficients.Given as goal

abbrev pub invariant-loop-exponent : goal.invariant-loop-exponent
invariant-loop-exponent g l =
    let value = g.F.Field.value in
    let done = cut value 0 l.buffer.marks.items l.buffer.powers.items in
    record {
      parts : Parts 0 l.buffer.marks.items l.buffer.powers.items;
      monomials : HaveMonomials done;
      so_far : done ++ terms_from l.x l.exponent (map value (drop l.exponent l.coefs)) ≡ terms_in l.x (map value l.coefs);
    }
