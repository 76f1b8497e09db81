use Rattle.std.proofs.Common.{sym, subst}
use Rattle.ffc_ring.specs.Polynomial.{Terms}
use Rattle.ffc_mono.specs.Leading.{IsLeading}
use Rattle.ffc_basis.proofs.Lists.{poly_at}
use Rattle.ffc_basis.proofs.represented.follows_from_others.Goals as goal

pub is_represented_by_divisor-requires-clause-lcm : goal.is_represented_by_divisor-requires-clause-lcm
is_represented_by_divisor-requires-clause-lcm g c =
    let p = g.F.Field.ORDER in
    let value = g.F.Field.value in
    let cmp = g.O.MonoOrder.cmp in
    let ls = c.args.lines.now in
    let m = c.in-Some.m in
    let n = c.in-Some-lead.n in (
      value m.0,
      m.1.powers.now,
      value n.0,
      n.1.powers.now,
      subst (λ (ts : Terms). IsLeading p cmp ts (value m.0) m.1.powers.now) (sym (poly_at ls c.args.i c.index-lines-i.result c.requires.first)) c.in-Some.ensures.leading,
      subst (λ (ts : Terms). IsLeading p cmp ts (value n.0) n.1.powers.now) (sym (poly_at ls c.args.j c.index-lines-j.result c.requires.second)) c.in-Some-lead.ensures.leading,
      c.in-Ok.ensures.value,
    )
