use Rattle.std.proofs.Common.{ap₂, ◌∙◌, sym}
use Rattle.ffc_field.specs.Modular.{mul_mod}
use Rattle.ffc_mono.proofs.LeadingLemmas.{one_leading}
use Rattle.ffc_ring.specs.Polynomial.{Terms}
use Rattle.ffc_basis.proofs.RaisedLemmas.{where_not_same}
use Rattle.ffc_basis.specs.Chains.{AreApart}
use Rattle.ffc_basis.proofs.chain.cancel.Goals as goal

pub returns : goal.returns
returns g c =
    let p = g.F.Field.ORDER in
    let cmp = g.O.MonoOrder.cmp in
    let value = g.F.Field.value in
    let a : Terms = c.args.a.now in
    let b : Terms = c.args.b.now in
    let m = c.in-Some.m in
    let n = c.in-Some-lead.n in
    where_not_same c.residue.result c.residue-2.result (AreApart p cmp a b) (λ different e u f v first second same.
    let one = (one_leading cmp g.met.O.MonoOrder.laws p a (value m.0) e m.1.powers.now u c.in-Some.ensures.leading first).0 in
    let two = (one_leading cmp g.met.O.MonoOrder.laws p b (value n.0) f n.1.powers.now v c.in-Some-lead.ensures.leading second).0 in
    different
    (c.residue.ensures.value ∙ c.mul-first.ensures ∙ ap₂ (mul_mod p) c.term.ensures.coefficient two ∙ same
    ∙ sym (c.residue-2.ensures.value ∙ c.mul-second.ensures ∙ ap₂ (mul_mod p) c.term-2.ensures.coefficient one)))
