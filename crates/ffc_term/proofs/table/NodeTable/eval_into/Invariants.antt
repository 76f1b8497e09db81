use Rattle.std.proofs.Common.{take}
use Rattle.ffc_term.specs.Values.{HoldsValues}
use Rattle.ffc_term.proofs.table.NodeTable.eval_into.Given as goal

abbrev pub invariant-loop-id : goal.invariant-loop-id
invariant-loop-id l = HoldsValues l.self l.values (take l.id-index l.nodes) l.initial.out l.out
