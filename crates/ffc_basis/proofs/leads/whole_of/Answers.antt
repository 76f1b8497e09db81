use Rattle.std.proofs.Common.{sym, subst, IfSome}
use Rattle.ffc_ring.specs.Polynomial.{Terms}
use Rattle.ffc_mono.specs.Leading.{IsLeading}
use Rattle.ffc_mono.specs.declared.mono.TheConstants.{DEGREE_LIMIT}
use Rattle.ffc_line.specs.Lines.{polys_of}
use Rattle.ffc_basis.specs.Outcomes.{IsSum}
use Rattle.ffc_basis.proofs.Lists.{poly_at}
use Rattle.ffc_basis.proofs.OrderedTerms.{AreTerms-ordered}
use Rattle.ffc_basis.proofs.leads.whole_of.Goals as goal

pub returns : goal.returns
returns g c =
    let p = g.F.Field.ORDER in
    let value = g.F.Field.value in
    let cmp = g.O.MonoOrder.cmp in
    let ls = c.args.lines.now in
    let gs = polys_of ls in
    let i = c.args.i in
    let j = c.args.j in
    let m = c.in-Some.m in
    let n = c.in-Some-lead.n in
    let spoly = c.in-Some-found.spoly in
    let sum : IsSum p value cmp gs i j spoly = subst (λ o. IfSome o (IsSum p value cmp gs i j)) c.in-Some-found.is c.in-Ok-s_polynomial.ensures.made in
    record {
      first_coefficient = value m.0;
      first = m.1.powers.now;
      second_coefficient = value n.0;
      second = n.1.powers.now;
      polynomial = spoly.poly;
      lists = AreTerms-ordered p cmp DEGREE_LIMIT spoly.poly c.len-length.ensures.ordered;
      first_leads = subst (λ (ts : Terms). IsLeading p cmp ts (value m.0) m.1.powers.now) (sym (poly_at ls i c.index-lines-i.result c.requires.first)) c.in-Some.ensures.leading;
      second_leads = subst (λ (ts : Terms). IsLeading p cmp ts (value n.0) n.1.powers.now) (sym (poly_at ls j c.index-lines-j.result c.requires.second)) c.in-Some-lead.ensures.leading;
      multiple = c.in-Ok.ensures.value;
      s_polynomial = sum.polynomial;
      none = c.in_ok-lead.ensures.none;
      some = c.in_ok-lead.ensures.some;
    }
