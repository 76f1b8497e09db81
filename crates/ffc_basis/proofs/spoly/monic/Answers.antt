use Rattle.std.proofs.Common.{◌∙◌, subst}
use Rattle.ffc_field.proofs.ModularLaws.{mul_mod-comm}
use Rattle.ffc_line.specs.Lines.{Parts}
use Rattle.ffc_basis.specs.Outcomes.{AreScaled}
use Rattle.ffc_basis.proofs.spoly.monic.Goals as goal

pub returns : goal.returns
returns g c =
    let p = g.F.Field.ORDER in
    let value = g.F.Field.value in
    let parts : Parts = c.args.parts.now in
    let found : Parts = c.in_ok-times.field-0.items in record {
      factor = value c.in-Some-inv.inverse;
      below = g.met.F.Field.below c.in-Some-inv.inverse;
      coefficient = value c.in-Some.lead.0;
      monomial = c.in-Some.lead.1.powers.now;
      leading = c.in-Some.ensures.leading;
      inverse = mul_mod-comm p (value c.in-Some-inv.inverse) (value c.in-Some.lead.0) ∙ c.in-Some-inv.ensures.inverse;
      multiple = c.in_ok-scaled.ensures;
      scaled_parts = subst (λ k. AreScaled p k parts found) c.neg.ensures c.in_ok-times.ensures.scaled;
    }
