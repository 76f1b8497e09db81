use Rattle.std.proofs.Common.{All, take}
use Rattle.ffc_term.specs.Tables.{IsFieldAt}
use Rattle.ffc_term.proofs.fitting.are_field.Given as goal

abbrev pub invariant-loop-id : goal.invariant-loop-id
invariant-loop-id l = All (IsFieldAt l.table l.order) (take l.id-index l.ids)
