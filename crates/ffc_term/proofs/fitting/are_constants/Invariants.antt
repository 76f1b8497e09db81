use Rattle.std.proofs.Common.{All, take}
use Rattle.ffc_term.specs.Nodes.{IsConstantAt}
use Rattle.ffc_term.proofs.fitting.are_constants.Given as goal

abbrev pub invariant-loop-id : goal.invariant-loop-id
invariant-loop-id l = All (IsConstantAt l.table) (take l.id-index l.ids)
