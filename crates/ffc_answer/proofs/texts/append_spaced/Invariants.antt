use Rattle.std.proofs.Common.{◌≡◌, ◌++◌, take}
use Rattle.ffc_answer.specs.Answers.{spaced}
use Rattle.ffc_answer.proofs.texts.append_spaced.Given as goal

abbrev pub invariant-loop-i : goal.invariant-loop-i
invariant-loop-i l = l.out.items ≡ l.fn.out.items ++ spaced (take l.i l.texts)
