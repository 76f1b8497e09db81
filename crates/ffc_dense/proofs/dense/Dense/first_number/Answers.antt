use Rattle.std.proofs.Common.{◌≡◌, ◌<◌, ℕ, List, [], length, drop, get_or, sym, ap, ap₂, ◌∙◌, arith}
use Rattle.ffc_ring.specs.Monomial.{Monomial}
use Rattle.ffc_ring.specs.Polynomial.{Terms}
use Rattle.ffc_poly.specs.Ordered.{values_of}
use Rattle.ffc_dense.specs.Columns.{listed}
use Rattle.ffc_dense.proofs.DenseLemmas.{listed_from, some_listed}
use Rattle.ffc_dense.proofs.dense.Dense.first_number.Goals as goal

pub returns-then-self-places : goal.returns-then-self-places
returns-then-self-places g c some =
    let i = c.self.inside in
    let ks = values_of g.F.Field.value i.coefficients.items in
    let ms = i.columns.0 in
    let ns = i.columns.1 in
    let inside : i.from < length ns = some_listed ks ms ns i.from (omega (arith, ap (λ v. length v.1) c.self.view_is, some)) in
    let first : get_or (listed ks ms (drop i.from ns)) 0 (0, []) ≡ (get_or ks (get_or ns i.from 0) 0, get_or ms (get_or ns i.from 0) []) = ap (λ ts. get_or ts 0 (0, [])) (listed_from ks ms ns i.from inside) in (
      omega (arith, c.at.ensures.within, ap (λ v. length v.0) c.self.view_is),
      ap₂ (λ xs n. get_or xs n []) (ap (λ v. v.0) (sym c.self.view_is)) c.at.ensures.value ∙ sym (ap (λ (t : ℕ × Monomial). t.1) first) ∙ ap (λ (v : List Monomial × Terms). (get_or v.1 0 (0, [])).1) c.self.view_is,
    )
