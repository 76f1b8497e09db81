use Rattle.std.proofs.Common.{◌≡◌, drop, map}
use Rattle.ffc_echelon.specs.Buffers.{with_multiple}
use Rattle.ffc_echelon.proofs.buffer.add_multiple.Given as goal

abbrev pub invariant-loop-column : goal.invariant-loop-column
invariant-loop-column g l =
    let value = g.F.Field.value in
    let p = g.F.Field.ORDER in
    with_multiple p (value l.scale) (map (λ e. (e.0, value e.1)) (drop l.column-index l.coordinates)) (map value l.buffer)
    ≡ with_multiple p (value l.scale) (map (λ e. (e.0, value e.1)) l.coordinates) (map value l.initial.buffer)
