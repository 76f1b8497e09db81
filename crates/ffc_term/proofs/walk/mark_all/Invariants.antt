use Rattle.std.proofs.Common.{Contains, take}
use Rattle.ffc_term.specs.Marking.{Marks}
use Rattle.ffc_term.proofs.walk.mark_all.Given as goal

abbrev pub invariant-loop-id : goal.invariant-loop-id
invariant-loop-id l = Marks (Contains (take l.id-index l.ids)) l.initial.marks l.marks
