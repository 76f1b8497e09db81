use Rattle.std.proofs.Common.{◌≡◌, [], get_or, sym, ap, ◌∙◌, subst, arith, Some}
use Rattle.ffc_ring.specs.Monomial.{Monomial, Divides, mono_mul}
use Rattle.ffc_ring.specs.Polynomial.{Terms}
use Rattle.ffc_mono.specs.declared.mono.TheConstants.{DEGREE_LIMIT}
use Rattle.ffc_basis.specs.Chains.{IsRaised}
use Rattle.ffc_basis.proofs.RaisedLemmas.{raised_one, raised_more}
use Rattle.ffc_basis.proofs.chain.raise.Goals as goal

pub returns-then-count-lt2 : goal.returns-then-count-lt2
returns-then-count-lt2 g c =
    let ts : Terms = c.args.poly.now in
    let m : Monomial = c.in-Some.lead.powers.now in
    raised_one g.F.Field.ORDER g.met.F.Field.prime g.O.MonoOrder.cmp g.met.O.MonoOrder.laws DEGREE_LIMIT ts c.len-count.ensures.ordered (omega (arith, c.len-count.ensures.value, c.if-count-lt2.true)) (g.F.Field.value c.in-Some.field-0-0) m
    c.args.top.now c.in-Some.ensures.leading (subst (Divides m) c.as_ref.ensures (c.divides.ensures.0 c.if-not-divides.false))

pub returns-in-Ok : goal.returns-in-Ok
returns-in-Ok g c =
    let p = g.F.Field.ORDER in
    let cmp = g.O.MonoOrder.cmp in
    let ts : Terms = c.args.poly.now in
    let m : Monomial = c.in-Some.lead.powers.now in
    let top : Monomial = c.args.top.now in
    let up : Monomial = c.in_ok-up.up in
    let second : Monomial = c.in-Ok.second in
    let is : mono_mul m up ≡ top = ap (λ k. mono_mul k up) (sym c.in_ok-to_mono.ensures.value) ∙ c.in_ok-up.ensures.value in
    let raised : second ≡ mono_mul up (get_or ts 1 (0, [])).1 =
    c.in-Ok.ensures.value ∙ ap (mono_mul up) (c.in_ok-to_mono-2.ensures.value ∙ c.term.ensures.monomial) in
    subst (λ k. IsRaised p cmp ts top record { second = Some k }) (sym raised)
    (raised_more p g.met.F.Field.prime cmp g.met.O.MonoOrder.laws DEGREE_LIMIT ts c.len-count.ensures.ordered (omega (arith, c.len-count.ensures.value, c.if-count-lt2.false)) (g.F.Field.value c.in-Some.field-0-0) m top up c.in-Some.ensures.leading
    (subst (Divides m) c.as_ref.ensures (c.divides.ensures.0 c.if-not-divides.false)) c.degree-degree.ensures.monomial is)
