use Rattle.std.proofs.Common.{All, take, length, ◌<◌}
use Rattle.rows_solver.proofs.tables.are_nodes.Given as goal

abbrev pub invariant-loop-id : goal.invariant-loop-id
invariant-loop-id l = All (λ id. id < length l.table) (take l.id-index l.ids)
