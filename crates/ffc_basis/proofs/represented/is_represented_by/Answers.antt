use Rattle.std.proofs.Common.{subst}
use Rattle.ffc_basis.specs.Dividing.{LeadsDivisor}
use Rattle.ffc_line.specs.Lines.{polys_of}
use Rattle.ffc_basis.proofs.RepresentedLemmas.{follows_from_both}
use Rattle.ffc_basis.proofs.represented.is_represented_by.Goals as goal

pub returns : goal.returns
returns g c = λ is.
    let p = g.F.Field.ORDER in
    let cmp = g.O.MonoOrder.cmp in
    let gs = polys_of c.args.lines.now in
    let third : LeadsDivisor p cmp gs c.args.lcm.now c.args.third =
    subst (λ m. LeadsDivisor p cmp gs m c.args.third) c.as_ref.ensures (c.is_led_by.ensures c.if-not-is_led_by.false) in
    follows_from_both p g.met.F.Field.prime cmp g.met.O.MonoOrder.laws gs c.requires.lists c.args.i c.args.j c.args.third c.args.lcm.now c.requires.lcm
    third (c.is_represented_between.ensures c.if-not-is_represented_between.false) (c.is_represented_between-2.ensures is)
