use Rattle.std.proofs.Common.{◌≡◌, ◌<◌, ℕ, [], length, drop, get_or, sym, ap, ◌∙◌, subst, arith}
use Rattle.std.proofs.lemmas.List.{get_or-map}
use Rattle.ffc_ring.specs.Polynomial.{Terms}
use Rattle.ffc_mono.specs.Leading.{IsLeading}
use Rattle.ffc_poly.specs.Ordered.{values_of}
use Rattle.ffc_dense.specs.Columns.{listed}
use Rattle.ffc_dense.proofs.DenseLemmas.{leading_from, some_listed}
use Rattle.ffc_dense.proofs.dense.Dense.first.Goals as goal

pub returns-clause-leading : goal.returns-clause-leading
returns-clause-leading g c some =
    let value = g.F.Field.value in
    let p = g.F.Field.ORDER in
    let i = c.self.inside in
    let ks = values_of value i.coefficients.items in
    let ms = i.columns.0 in
    let ns = i.columns.1 in
    let inside : i.from < length ns = some_listed ks ms ns i.from (omega (arith, ap (λ v. length v.1) c.self.view_is, c.requires)) in
    let number = c.at-number.result in
    let within : number < length i.coefficients.items = omega (arith, c.self.invariant.0, c.at-number.ensures.within) in
    let coefficient : value c.index.result.now ≡ get_or ks (get_or ns i.from 0) 0 =
    ap value c.index.ensures ∙ sym (get_or-map value i.coefficients.items number c.index.result.now 0 within) ∙ ap (λ k. get_or ks k 0) c.at-number.ensures.value in
    let monomial = c.monomial.ensures ∙ ap (λ k. get_or ms k []) c.at-number.ensures.value in
    let lead = leading_from p g.O.MonoOrder.cmp g.met.O.MonoOrder.laws ks ms ns i.from c.len-count.ensures.columns.descending inside
    (subst (λ k. k < p) coefficient (g.met.F.Field.below c.index.result.now)) (λ e. some (coefficient ∙ e)) in
    subst (λ (ts : Terms). IsLeading p g.O.MonoOrder.cmp ts (value c.index.result.now) c.monomial.result.now) (ap (λ v. v.1) c.self.view_is)
    (subst (λ k. IsLeading p g.O.MonoOrder.cmp (listed ks ms (drop i.from ns)) k c.monomial.result.now) (sym coefficient)
    (subst (λ m. IsLeading p g.O.MonoOrder.cmp (listed ks ms (drop i.from ns)) (get_or ks (get_or ns i.from 0) 0) m) (sym monomial) lead))
