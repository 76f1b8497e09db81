use Rattle.std.proofs.Common.{sym, subst, arith}
use Rattle.ffc_mono.specs.Leading.{IsLeading}
use Rattle.ffc_basis.proofs.Lists.{length-polys, poly_at}
use Rattle.ffc_basis.proofs.represented.is_led_by.Goals as goal

pub returns-in-Some : goal.returns-in-Some
returns-in-Some g c = λ divides.
    let p = g.F.Field.ORDER in
    let cmp = g.O.MonoOrder.cmp in
    let ls = c.args.lines.now in
    record {
      within = omega (arith, c.requires, length-polys ls);
      coefficient = g.F.Field.value c.in-Some.field-0-0;
      monomial = c.in-Some.lead.powers.now;
      leads = subst (λ ts. IsLeading p cmp ts (g.F.Field.value c.in-Some.field-0-0) c.in-Some.lead.powers.now) (sym (poly_at ls c.args.line c.index-lines-line.result c.requires)) c.in-Some.ensures.leading;
      divides = c.divides.ensures.0 divides;
    }
