use Rattle.std.proofs.Common.{◌≡◌, ◌+◌, drop, map, ap, ◌∙◌}
use Rattle.ffc_field.specs.Modular.{mul_mod}
use Rattle.ffc_echelon.specs.Buffers.{raised, with_multiple}
use Rattle.ffc_echelon.proofs.Buffers.{left_at, raised_at, raised_past}
use Rattle.ffc_echelon.proofs.buffer.add_multiple.Goals as goal
use Rattle.ffc_echelon.proofs.buffer.add_multiple.Goals.{then-place-buffer, else-place-buffer}

pub loop-column-preserved : goal.loop-column-preserved
loop-column-preserved g c =
    let value = g.F.Field.value in
    let p = g.F.Field.ORDER in
    let s = value c.args.scale in
    let index = c.loop-column.column-index in
    let given = c.args.coordinates.now in
    let e = c.loop-column-item.result in
    let buffer = c.loop-column.buffer in
    let more = mul_mod p s (value e.1) in
    let step : map value c.if-place-buffer.buffer ≡ raised p (map value buffer) e.0 more =
    elim c.if-place-buffer.branch [
      | then-place-buffer w ↦
          ap (map value) w.buffer-is
          ∙ raised_at value p buffer e.0 w.index-buffer-place.result w.add_scaled.result more w.if-place-buffer.true w.index-buffer-place.is w.add_scaled.ensures
      | else-place-buffer w ↦
          ap (map value) w.buffer-is ∙ raised_past value p buffer e.0 more w.if-place-buffer.false
    ] in
    ap (with_multiple p s (map (λ e. (e.0, value e.1)) (drop (index + 1) given))) step
    ∙ ap (λ l. with_multiple p s (map (λ e. (e.0, value e.1)) l) (map value buffer)) (left_at given index e c.loop-column-test.true c.loop-column-item.is)
    ∙ c.loop-column.invariant
