use Rattle.std.proofs.Common.{◌≡◌, List, sym, ap, ◌∙◌, subst}
use Rattle.std.proofs.lemmas.Bool.{cond-true, cond-false}
use Rattle.ffc_ring.specs.Polynomial.{Terms, SamePolynomial}
use Rattle.ffc_dense.specs.Tables.{Multiple}
use Rattle.ffc_basis.proofs.left.Left.into_poly.Goals as goal

pub returns-then-is_in_table-clause-same : goal.returns-then-is_in_table-clause-same
returns-then-is_in_table-clause-same g c =
    let i = c.self.inside in
    let same : i.table.0 ≡ c.args.self.0 = sym (cond-true i.is_in_table i.table.0 i.sum c.if-is_in_table.true) ∙ ap (λ (v : Terms × List Multiple). v.0) c.self.view_is in
    subst (SamePolynomial g.F.Field.ORDER c.in_ok-poly.poly) same c.in_ok-poly.ensures

pub returns-clause-same : goal.returns-clause-same
returns-clause-same g c =
    let i = c.self.inside in
    let same : i.sum ≡ c.args.self.0 = sym (cond-false i.is_in_table i.table.0 i.sum c.if-is_in_table.false) ∙ ap (λ (v : Terms × List Multiple). v.0) c.self.view_is in
    subst (SamePolynomial g.F.Field.ORDER c.in_ok-poly-2.poly) same c.in_ok-poly-2.ensures
