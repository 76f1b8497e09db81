use Rattle.std.proofs.Common.{◌≡◌, [], get_or, sym, ap, ◌∙◌, subst}
use Rattle.ffc_ring.specs.Polynomial.{Terms, coefficient}
use Rattle.ffc_mono.specs.Leading.{IsLeading}
use Rattle.ffc_dense.specs.Tables.{AreMultiplesOf, IsHeldAt}
use Rattle.ffc_dense.proofs.TableLemmas.{held_leads, leading_same}
use Rattle.ffc_dense.proofs.table.Table.held.Goals as goal

pub returns-clause-held : goal.returns-clause-held
returns-clause-held g c = λ gs all.
    let value = g.F.Field.value in
    let p = g.F.Field.ORDER in
    let cmp = g.O.MonoOrder.cmp in
    let i = c.self.inside in
    let ms = i.dense.0 in
    let k = value c.first-c.result.0 in
    let slot = c.first_number-slot.result in
    let some = c.settle.ensures.some c.if-not-settle.false in
    let top : IsLeading p cmp c.settle.new.self.1 k c.first-c.result.1.now = c.first-c.ensures.leading (λ none. some.1 (sym c.first-c.ensures.coefficient ∙ none)) in
    let number : c.first-c.result.1.now ≡ get_or ms slot [] =
    c.first-c.ensures.monomial ∙ sym (c.first_number-slot.ensures some.0).1 ∙ ap (λ xs. get_or xs slot []) c.settle.ensures.monomials in
    let leads : IsLeading p cmp c.args.self.now.0 k (get_or ms slot []) =
    leading_same p cmp c.settle.new.self.1 c.args.self.now.0 k (get_or ms slot []) (λ m. c.settle.ensures.same m ∙ ap (λ v. coefficient p v.0 m) c.self.view_is)
    (subst (IsLeading p cmp c.settle.new.self.1 k) number top) in
    let held : IsHeldAt i.kept.items slot c.in-Some.line c.in_ok-m.m =
    subst (IsHeldAt i.kept.items slot c.in-Some.line) (sym c.in_ok-m.ensures.cases) (subst (λ ks. IsHeldAt ks slot c.in-Some.line c.in-Some.m.now) c.as_slice.ensures.value c.in-Some.ensures) in
    held_leads p g.met.F.Field.prime cmp g.met.O.MonoOrder.laws value gs ms i.kept.items slot c.in-Some.line c.in_ok-m.m c.args.self.now.0 k c.self.invariant held c.degree-degree.ensures.monomial leads
    (subst (AreMultiplesOf p gs) (ap (λ v. v.1) (sym c.self.view_is)) all)
