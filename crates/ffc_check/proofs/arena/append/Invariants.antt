use Rattle.std.proofs.Common.{◌≡◌, ◌++◌, take}
use Rattle.ffc_check.proofs.arena.append.Given as goal

abbrev pub invariant-loop-literal : goal.invariant-loop-literal
invariant-loop-literal l = l.buffer.items ≡ l.initial.buffer.items ++ take l.literal-index l.literals
