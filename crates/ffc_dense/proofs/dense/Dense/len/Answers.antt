use Rattle.std.proofs.Common.{◌≡◌, length, drop, ap, arith, length-drop}
use Rattle.ffc_poly.specs.Ordered.{values_of}
use Rattle.ffc_dense.proofs.DenseLemmas.{length-listed}
use Rattle.ffc_dense.proofs.dense.Dense.len.Goals as goal

pub returns-clause-terms : goal.returns-clause-terms
returns-clause-terms g c =
    let i = c.self.inside in
    omega (arith, ap (λ v. length v.1) c.self.view_is, length-listed (values_of g.F.Field.value i.coefficients.items) i.columns.0 (drop i.from i.columns.1), length-drop i.from i.columns.1, c.len.ensures.columns.long, c.len.ensures.value)
