use Rattle.std.proofs.Common.{◌≡◌, ◌+◌, ◌-◌, drop, get_or, sym, ap, ◌∙◌, arith}
use Rattle.ffc_ring.specs.Polynomial.{coefficient}
use Rattle.ffc_poly.specs.Ordered.{values_of}
use Rattle.ffc_dense.specs.Columns.{listed}
use Rattle.ffc_dense.proofs.DenseLemmas.{zeros_before}
use Rattle.ffc_dense.proofs.dense.Dense.settle.Goals as goal

pub returns-clause-same : goal.returns-clause-same
returns-clause-same g c m =
    let value = g.F.Field.value in
    let p = g.F.Field.ORDER in
    let i = c.self.inside in
    let ks = values_of value i.coefficients.items in
    let ms = i.columns.0 in
    let ns = i.columns.1 in
    let r = c.first_nonzero-self-inside.result in
    let given = c.first_nonzero-self-inside.ensures in
    let e : i.from + (r - i.from) ≡ r = omega (arith, given.after) in
    ap (λ k. coefficient p (listed ks ms (drop k ns)) m) (sym e)
    ∙ zeros_before p ks ms ns i.from (r - i.from) (omega (arith, e, given.within))
    (λ j l h. ap (λ xs. get_or (values_of value xs) (get_or ns j 0) 0) (sym c.as_slice.ensures.value) ∙ given.zeros j l (omega (arith, e, h))) m
    ∙ ap (λ v. coefficient p v.1 m) c.self.view_is
