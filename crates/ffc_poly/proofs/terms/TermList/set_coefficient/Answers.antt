use Rattle.std.proofs.Common.{◌<◌, [], get_or, set, length, ap, ◌∙◌, arith}
use Rattle.ffc_ring.specs.Polynomial.{Terms}
use Rattle.ffc_poly.proofs.TermLemmas.{length-zipped, zipped-set}
use Rattle.ffc_poly.proofs.terms.TermList.set_coefficient.Goals as goal

pub index_mut-requires : goal.index_mut-requires
index_mut-requires g c =
    omega (arith, length-zipped g.F.Field.value c.self.inside.coefficients.items c.self.inside.monomials c.self.invariant, ap length c.self.view_is, c.requires, c.self.invariant, c.self.inside.coefficients.ok)

pub returns : goal.returns
returns g c =
    let value = g.F.Field.value in
    let cs = c.self.inside.coefficients.items in
    let ms = c.self.inside.monomials in
    let low : c.args.i < length ms = omega (arith, length-zipped value cs ms c.self.invariant, ap length c.self.view_is, c.requires) in
    zipped-set value cs ms c.args.i c.args.c c.self.invariant low
    ∙ ap (λ (ts : Terms). set ts c.args.i (value c.args.c, (get_or ts c.args.i (0, [])).1)) c.self.view_is
