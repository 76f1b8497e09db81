use Rattle.std.proofs.Common.{length, arith}
use Rattle.ffc_echelon.proofs.PointLemmas.{dot_more, entry_below}
use Rattle.ffc_echelon.proofs.value.value_at.Goals as goal

pub offset_bounds-point-entry : goal.offset_bounds-point-entry
offset_bounds-point-entry g c =
    let low = entry_below g.F.Field.value (length c.args.point.now) c.loop-entry.entry-index c.args.vector.now c.coordinates-coordinates.result.now c.entry-item.result c.requires c.coordinates-coordinates.ensures.value (omega arith) c.entry-item.is in
    omega arith

pub bounds-point-entry : goal.bounds-point-entry
bounds-point-entry g c =
    entry_below g.F.Field.value (length c.args.point.now) c.loop-entry.entry-index c.args.vector.now c.coordinates-coordinates.result.now c.entry-item.result c.requires c.coordinates-coordinates.ensures.value (omega arith) c.entry-item.is

pub loop-entry-preserved : goal.loop-entry-preserved
loop-entry-preserved g c =
    let value = g.F.Field.value in
    let items = c.coordinates-coordinates.result.now in
    let i = c.loop-entry.entry-index in
    let low = entry_below value (length c.args.point.now) i c.args.vector.now items c.entry-item.result c.requires c.coordinates-coordinates.ensures.value (omega arith) c.entry-item.is in
    dot_more value g.F.Field.ORDER c.args.point.now items i c.entry-item.result c.index-point-entry.result (value c.loop-entry.value) (value c.add_scaled-value.result)
    (omega arith) c.entry-item.is low c.index-point-entry.is c.loop-entry.invariant c.add_scaled-value.ensures
