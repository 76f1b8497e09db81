use Rattle.std.proofs.Common.{take}
use Rattle.ffc_line.specs.Lines.{IsLineOfNone}
use Rattle.ffc_basis.proofs.record.place_of.Given as goal

abbrev pub invariant-loop-place : goal.invariant-loop-place
invariant-loop-place g l = IsLineOfNone l.line (take l.place l.multiples)
