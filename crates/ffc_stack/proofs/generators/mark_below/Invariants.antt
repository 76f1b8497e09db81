use Rattle.ffc_stack.specs.Marks.{IsReachedTo}
use Rattle.ffc_stack.proofs.generators.mark_below.Given as goal

abbrev pub invariant-loop-place : goal.invariant-loop-place
invariant-loop-place g l = IsReachedTo l.lines l.line l.place l.reached
