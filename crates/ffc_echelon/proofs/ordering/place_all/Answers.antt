use Rattle.std.proofs.Common.{◌+◌, ◌∙◌, get_or, length, ap, sym, subst, arith}
use Rattle.std.proofs.lemmas.List.{get_or-map, length-set}
use Rattle.ffc_echelon.specs.Ordering.{ArePlaced}
use Rattle.ffc_echelon.proofs.OrderingLemmas.{placed_more, order_inside}
use Rattle.ffc_echelon.proofs.ordering.place_all.Goals as goal

pub place_one-requires : goal.place_one-requires
place_one-requires g c =
    let inside = order_inside 0 (length c.args.order.now) c.args.order.now c.requires.order c.loop-place.place 0 c.loop-place-test.true in
    omega (arith, inside, c.loop-place.invariant.wide, c.requires.wide)

pub loop-place-preserved : goal.loop-place-preserved
loop-place-preserved g c =
    let value = g.F.Field.value in
    let order = c.args.order.now in
    let values = c.args.values.now in
    let i = c.loop-place.place in
    let point = c.loop-place.point in
    let x = c.index-values-place.result in
    record {
      wide = ap length c.place_one.ensures ∙ length-set point (get_or order i 0) x ∙ c.loop-place.invariant.wide;
      each = subst (ArePlaced value order values (i + 1)) (sym c.place_one.ensures)
          (placed_more 0 (length order) order c.requires.order value values point i x c.loop-place-test.true (c.loop-place.invariant.wide ∙ c.requires.wide)
          (ap value c.index-values-place.is ∙ sym (get_or-map value values i x 0 (omega (arith, c.requires.long, c.loop-place-test.true)))) c.loop-place.invariant.each);
    }
