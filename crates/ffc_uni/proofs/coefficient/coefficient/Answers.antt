use Rattle.std.proofs.Common.{◌%◌, map, ap, ◌∙◌, arith}
use Rattle.ffc_uni.proofs.Convolutions.{product_whole}
use Rattle.ffc_uni.proofs.Rows.{length-residues}
use Rattle.ffc_uni.proofs.coefficient.coefficient.Goals as goal

pub returns : goal.returns
returns g c =
    let value = g.F.Field.value in
    let long = length-residues value c.args.b.now in
    c.coefficient_from.ensures
    ∙ ap (λ n. n % g.F.Field.ORDER)
    (product_whole (map value c.args.a.now) (map value c.args.b.now) c.args.place c.saturating_sub.result (omega (arith, long, c.requires)) (omega (arith, long, c.saturating_sub.ensures)))
