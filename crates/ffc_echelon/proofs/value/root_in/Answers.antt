use Rattle.std.proofs.Common.{◌≡◌, ◌<◌, map, get_or, sym, ap, ap₂, ◌∙◌, subst, arith}
use Rattle.std.proofs.lemmas.List.{get_or-map, length-map}
use Rattle.ffc_field.specs.Modular.{sub_mod, mul_mod}
use Rattle.ffc_echelon.proofs.PointLemmas.{root_is}
use Rattle.ffc_echelon.proofs.value.root_in.Goals as goal

pub returns-clause-root : goal.returns-clause-root
returns-clause-root g c =
    let value = g.F.Field.value in
    let p = g.F.Field.ORDER in
    let point = c.args.point.now in
    let k = c.args.column in
    let there : get_or (map value point) k 0 ≡ value c.index-point-column.result = get_or-map value point k c.index-point-column.result 0 c.requires.inside ∙ ap value (sym c.index-point-column.is) in
    let low = g.met.F.Field.below c.index-point-column.result in
    root_is p k (value c.args.inverse) (value c.sub.result) (map value point) c.args.vector.now (omega (arith, g.met.F.Field.prime.least)) c.value_at.ensures.valid (omega (arith, length-map point value, c.requires.inside)) (subst (λ n. n < p) (sym there) low) c.requires.inverse
    (c.sub.ensures ∙ ap₂ (sub_mod p) (sym there) (c.mul.ensures ∙ ap (λ n. mul_mod p n (value c.args.inverse)) c.value_at.ensures.value))
