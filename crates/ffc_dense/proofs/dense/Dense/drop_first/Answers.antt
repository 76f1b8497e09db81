use Rattle.std.proofs.Common.{◌≡◌, ◌<◌, ◌+◌, ℕ, length, drop, sym, ap, ap₂, ◌∙◌, arith}
use Rattle.ffc_poly.specs.Ordered.{values_of}
use Rattle.ffc_dense.proofs.DenseLemmas.{listed_from, some_listed}
use Rattle.ffc_dense.proofs.dense.Dense.drop_first.Goals as goal

pub returns : goal.returns
returns g c =
    let i = c.self.inside in
    let ks = values_of g.F.Field.value i.coefficients.items in
    let ms = i.columns.0 in
    let ns = i.columns.1 in
    let inside : i.from < length ns = some_listed ks ms ns i.from (omega (arith, ap (λ v. length v.1) c.self.view_is, c.requires)) in
    ap₂ (λ x y. (x, y)) (ap (λ v. v.0) c.self.view_is) (sym (ap (drop 1) (listed_from ks ms ns i.from inside)) ∙ ap (λ v. drop 1 v.1) c.self.view_is)
