use Rattle.std.proofs.Common.{All, take}
use Rattle.ffc_term.specs.Tables.{IsBooleanAt}
use Rattle.ffc_term.proofs.fitting.are_boolean.Given as goal

abbrev pub invariant-loop-id : goal.invariant-loop-id
invariant-loop-id l = All (IsBooleanAt l.table) (take l.id-index l.ids)
