use Rattle.std.proofs.Common.{ap, ◌∙◌, arith}
use Rattle.std.proofs.Math.Nat.{zero-mod}
use Rattle.std.specs.Option.{unwrap_or}
use Rattle.ffc_ckpoly.proofs.Values.{point_of-get_or}
use Rattle.ffc_ckpoly.proofs.reading.coordinate.Goals as goal

pub returns : goal.returns
returns g c =
    let value = g.F.Field.value in
    ap value (c.unwrap_or.ensures ∙ ap (λ o. unwrap_or o c.of.result) c.copied.ensures ∙ c.get.ensures.lookup.4 (omega arith) c.of.result)
    ∙ point_of-get_or value c.of.result (c.of.ensures ∙ zero-mod g.F.Field.ORDER) c.args.at.now c.args.variable
