use Rattle.std.proofs.Common.{◌≡◌, ◌++◌, drop, map}
use Rattle.ffc_echelon.specs.Buffers.{nonzero_from}
use Rattle.ffc_echelon.proofs.buffer.nonzero.Given as goal

abbrev pub invariant-loop-place : goal.invariant-loop-place
invariant-loop-place g l =
    let value = g.F.Field.value in
    map (λ e. (e.0, value e.1)) l.coordinates.items ++ nonzero_from l.place (map value (drop l.place l.buffer))
    ≡ nonzero_from 0 (map value l.buffer)
