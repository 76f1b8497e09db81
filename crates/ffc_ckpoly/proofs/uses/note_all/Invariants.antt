use Rattle.std.proofs.Common.{take}
use Rattle.ffc_ckpoly.specs.Uses.{AreNoted}
use Rattle.ffc_ckpoly.proofs.uses.note_all.Given as goal

abbrev pub invariant-loop-id : goal.invariant-loop-id
invariant-loop-id g l = AreNoted l.table l.known l.initial.waiting l.waiting l.factors (take l.id-index l.ids)
