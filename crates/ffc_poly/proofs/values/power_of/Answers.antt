use Rattle.std.proofs.Common.{◌^◌, ◌%◌, sym, ap, ◌∙◌, mod-eq_of_lt}
use Rattle.ffc_field.specs.Proth.{pow-one_exponent}
use Rattle.ffc_poly.proofs.values.power_of.Goals as goal

pub returns-then-exponent-eq1 : goal.returns-then-exponent-eq1
returns-then-exponent-eq1 g c =
    let p = g.F.Field.ORDER in
    let x = g.F.Field.value c.args.coordinate in
    sym (ap (λ e. x ^ e % p) c.if-exponent-eq1.true ∙ ap (λ k. k % p) (pow-one_exponent x) ∙ mod-eq_of_lt (g.met.F.Field.below c.args.coordinate))
