use Rattle.std.proofs.Common.{◌≡◌, sym, ap, ◌∙◌, subst, IfSome}
use Rattle.std.specs.declared.cmp.Ordering.TheVariants.{Less, Equal, Greater}
use Rattle.ffc_ring.specs.Polynomial.{Terms}
use Rattle.ffc_basis.specs.Chains.{IsRaised}
use Rattle.ffc_basis.proofs.RaisedLemmas.{under_second}
use Rattle.ffc_basis.proofs.chain.is_under.Goals as goal

pub returns-in-Less : goal.returns-in-Less
returns-in-Less g c = λ _.
    let p = g.F.Field.ORDER in
    let cmp = g.O.MonoOrder.cmp in
    let ts : Terms = c.args.poly.now in
    let top = c.args.top.now in
    under_second p g.met.F.Field.prime cmp g.met.O.MonoOrder.laws ts top.lcm top.lead c.in-Some-second.second c.in-Some.line c.in-Some-second.is
    (λ above. let both : Less ≡ Greater = sym c.in-Less.is ∙ c.compare.ensures ∙ ap (λ x. cmp x top.lead) c.in-Some-second.second-is ∙ above in absurd (cc both))
    (subst (λ o. IfSome o (IsRaised p cmp ts top.lcm)) c.in-Some.is c.in_ok-line.ensures)

pub returns-in-Equal : goal.returns-in-Equal
returns-in-Equal g c = λ _.
    let p = g.F.Field.ORDER in
    let cmp = g.O.MonoOrder.cmp in
    let ts : Terms = c.args.poly.now in
    let top = c.args.top.now in
    under_second p g.met.F.Field.prime cmp g.met.O.MonoOrder.laws ts top.lcm top.lead c.in-Some-second.second c.in-Some.line c.in-Some-second.is
    (λ above. let both : Equal ≡ Greater = sym c.in-Equal.is ∙ c.compare.ensures ∙ ap (λ x. cmp x top.lead) c.in-Some-second.second-is ∙ above in absurd (cc both))
    (subst (λ o. IfSome o (IsRaised p cmp ts top.lcm)) c.in-Some.is c.in_ok-line.ensures)
