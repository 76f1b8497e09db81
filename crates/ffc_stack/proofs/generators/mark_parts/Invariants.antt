use Rattle.std.proofs.Common.{take}
use Rattle.ffc_stack.specs.Marks.{IsMarkedBy}
use Rattle.ffc_stack.proofs.generators.mark_parts.Given as goal

abbrev pub invariant-loop-number : goal.invariant-loop-number
invariant-loop-number g l = IsMarkedBy (take l.number l.parts) l.initial.reached l.reached
