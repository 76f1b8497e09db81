use Rattle.std.proofs.Common.{◌≡◌, get_or, map, take}
use Rattle.ffc_echelon.proofs.ordering.gathered.Given as goal

abbrev pub invariant-loop-column : goal.invariant-loop-column
invariant-loop-column g l = map g.F.Field.value l.dense.items ≡ map (λ k. get_or (map g.F.Field.value l.buffer) k 0) (take l.column-index l.order)
