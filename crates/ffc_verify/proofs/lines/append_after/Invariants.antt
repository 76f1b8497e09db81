use Rattle.std.proofs.Common.{◌≡◌, ◌++◌, take}
use Rattle.ffc_verify.specs.Texts.{spaced_after}
use Rattle.ffc_verify.proofs.lines.append_after.Given as goal

abbrev pub invariant-loop-text : goal.invariant-loop-text
invariant-loop-text l = l.out.items ≡ l.fn.out.items ++ spaced_after (take l.text-index l.texts)
