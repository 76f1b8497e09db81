use Rattle.std.proofs.Common.{◌≡◌, ◌≤◌, take}
use Rattle.ffc_term.specs.Tables.{constant_count}
use Rattle.ffc_term.proofs.fitting.count_constants.Given as goal

abbrev pub invariant-loop-id : goal.invariant-loop-id
invariant-loop-id l = (l.count ≡ constant_count (take l.id l.table)) × (l.count ≤ l.id)
