use Rattle.std.proofs.Common.{length, ap, arith}
use Rattle.ffc_poly.proofs.TermLemmas.{length-zipped}
use Rattle.ffc_poly.proofs.terms.TermList.len.Goals as goal

pub returns : goal.returns
returns g c =
    omega (arith, c.len.ensures, length-zipped g.F.Field.value c.self.inside.coefficients.items c.self.inside.monomials c.self.invariant, ap length c.self.view_is)
