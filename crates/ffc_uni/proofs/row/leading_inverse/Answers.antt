use Rattle.std.proofs.Common.{◌-◌, length, map, ap, ◌∙◌, refl, arith}
use Rattle.ffc_field.specs.Modular.{mul_mod}
use Rattle.ffc_uni.proofs.Rows.{leading_at, leading-nonzero, length-residues}
use Rattle.ffc_uni.proofs.row.leading_inverse.Goals as goal

pub unreachable-requires : goal.unreachable-requires
unreachable-requires g c =
    let value = g.F.Field.value in
    let p = g.F.Field.ORDER in
    let row = c.args.row.now in
    let last = leading_at value row (length row - 1) c.index-row-row.result (omega (arith, c.requires.nonzero)) c.index-row-row.is in
    leading-nonzero p (map value row) c.requires.normal (omega (arith, c.requires.nonzero, length-residues value row)) (last ∙ c.in-None.ensures.zero.0 refl)

pub returns : goal.returns
returns g c =
    let value = g.F.Field.value in
    let p = g.F.Field.ORDER in
    let row = c.args.row.now in
    let last = leading_at value row (length row - 1) c.index-row-row.result (omega (arith, c.requires.nonzero)) c.index-row-row.is in
    ap (λ k. mul_mod p k (value c.in-Some.inverse)) last ∙ c.in-Some.ensures.inverse
