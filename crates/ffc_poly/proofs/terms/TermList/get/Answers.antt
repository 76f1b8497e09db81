use Rattle.std.proofs.Common.{◌<◌, length, get_or, [], ap, ◌∙◌, arith}
use Rattle.ffc_ring.specs.Polynomial.{Terms}
use Rattle.ffc_poly.proofs.TermLemmas.{length-zipped, zipped-coefficient, zipped-monomial}
use Rattle.ffc_poly.proofs.terms.TermList.get.Goals as goal

pub index-requires : goal.index-requires
index-requires g c =
    omega (arith, length-zipped g.F.Field.value c.self.inside.coefficients.items c.self.inside.monomials c.self.invariant, ap length c.self.view_is, c.requires, c.self.invariant, c.self.inside.coefficients.ok)

pub get-requires : goal.get-requires
get-requires g c =
    omega (arith, length-zipped g.F.Field.value c.self.inside.coefficients.items c.self.inside.monomials c.self.invariant, ap length c.self.view_is, c.requires)

pub returns-clause-coefficient : goal.returns-clause-coefficient
returns-clause-coefficient g c =
    let value = g.F.Field.value in
    let cs = c.self.inside.coefficients.items in
    let ms = c.self.inside.monomials in
    let low : c.args.i < length ms = omega (arith, length-zipped value cs ms c.self.invariant, ap length c.self.view_is, c.requires) in
    ap value c.index.ensures ∙ zipped-coefficient value cs ms c.args.i c.index.result.now c.self.invariant low
    ∙ ap (λ (ts : Terms). (get_or ts c.args.i (0, [])).0) c.self.view_is

pub returns-clause-monomial : goal.returns-clause-monomial
returns-clause-monomial g c =
    let value = g.F.Field.value in
    let cs = c.self.inside.coefficients.items in
    let ms = c.self.inside.monomials in
    let low : c.args.i < length ms = omega (arith, length-zipped value cs ms c.self.invariant, ap length c.self.view_is, c.requires) in
    c.get.ensures ∙ zipped-monomial value cs ms c.args.i c.self.invariant low ∙ ap (λ (ts : Terms). (get_or ts c.args.i (0, [])).1) c.self.view_is
