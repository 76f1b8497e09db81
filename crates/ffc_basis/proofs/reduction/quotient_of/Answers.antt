use Rattle.std.proofs.Common.{sym, ap, ◌∙◌}
use Rattle.ffc_field.specs.Modular.{mul_mod}
use Rattle.ffc_field.proofs.ModularLaws.{mul_mod-comm, mul_mod-assoc, mul_mod-one}
use Rattle.ffc_basis.proofs.reduction.quotient_of.Goals as goal

pub returns : goal.returns
returns g c =
    let p = g.F.Field.ORDER in
    let value = g.F.Field.value in
    let top = value c.args.c in
    let lead = value c.args.d in
    let inverse = value c.in-Some.inverse in
    ap (λ n. mul_mod p n lead) c.mul.ensures
    ∙ mul_mod-assoc p top inverse lead
    ∙ ap (mul_mod p top) (mul_mod-comm p inverse lead ∙ c.in-Some.ensures.inverse)
    ∙ mul_mod-one p top (g.met.F.Field.below c.args.c)

pub returns-then-residue-eq1 : goal.returns-then-residue-eq1
returns-then-residue-eq1 g c =
    let p = g.F.Field.ORDER in
    let value = g.F.Field.value in
    ap (mul_mod p (value c.args.c)) (sym c.residue.ensures.value ∙ c.if-residue-eq1.true) ∙ mul_mod-one p (value c.args.c) (g.met.F.Field.below c.args.c)
