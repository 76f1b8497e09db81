use Rattle.std.proofs.Common.{◌+◌, ◌++◌, ◌∙◌, drop, map, sym, ap}
use Rattle.std.proofs.lemmas.List.{map_push}
use Rattle.ffc_echelon.specs.Vectors.{Coordinates}
use Rattle.ffc_echelon.specs.Buffers.{nonzero_from}
use Rattle.ffc_echelon.proofs.Buffers.{nonzero_passed, nonzero_pushed}
use Rattle.ffc_echelon.proofs.buffer.nonzero.Goals as goal
use Rattle.ffc_echelon.proofs.buffer.nonzero.Goals.{then-residue-ne0+in_ok-push, else-residue-ne0}

pub loop-place-preserved : goal.loop-place-preserved
loop-place-preserved g c =
    let value = g.F.Field.value in
    let buffer = c.args.buffer.now in
    let place = c.loop-place.place in
    let x = c.index-buffer-place.result in
    let out : Coordinates = map (λ e. (e.0, value e.1)) c.loop-place.coordinates.items in
    let whole : Coordinates = nonzero_from 0 (map value buffer) in
    let rest : Coordinates = nonzero_from (place + 1) (map value (drop (place + 1) buffer)) in
    elim c.if-residue-ne0.branch [
      | then-residue-ne0+in_ok-push w ↦
          ap (λ v. map (λ e. (e.0, value e.1)) v.items ++ rest) w.coordinates-is
          ∙ ap (λ l. l ++ rest) (ap (map (λ e. (e.0, value e.1))) w.in_ok-push.ensures.items ∙ map_push (λ e. (e.0, value e.1)) c.loop-place.coordinates.items (place, x))
          ∙ nonzero_pushed value buffer place x c.loop-place-test.true c.index-buffer-place.is out whole
          (λ none. w.if-residue-ne0.true (c.residue.ensures.value ∙ none)) c.loop-place.invariant
      | else-residue-ne0 w ↦
          ap (λ v. map (λ e. (e.0, value e.1)) v.items ++ rest) w.coordinates-is
          ∙ nonzero_passed value buffer place x c.loop-place-test.true c.index-buffer-place.is out whole
          (sym c.residue.ensures.value ∙ w.if-residue-ne0.false) c.loop-place.invariant
    ]
