use Rattle.std.proofs.Common.{◌≡◌, ◌++◌, drop, map}
use Rattle.ffc_echelon.specs.Progress.{scaled}
use Rattle.ffc_echelon.proofs.elimination.scaled_by.Given as goal

abbrev pub invariant-loop-column : goal.invariant-loop-column
invariant-loop-column g l =
    let value = g.F.Field.value in
    let p = g.F.Field.ORDER in
    map (λ e. (e.0, value e.1)) l.coordinates.items ++ scaled p (value l.scale) (map (λ e. (e.0, value e.1)) (drop l.column-index l.given))
    ≡ scaled p (value l.scale) (map (λ e. (e.0, value e.1)) l.given)
