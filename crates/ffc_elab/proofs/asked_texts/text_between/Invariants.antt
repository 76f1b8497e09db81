use Rattle.std.proofs.Common.{◌≡◌, ◌≤◌, ◌++◌, length}
use Rattle.ffc_smt.specs.Answering.{text_of}
use Rattle.ffc_elab.proofs.TextLemmas.{coming, spelled}
use Rattle.ffc_elab.proofs.asked_texts.text_between.Given as goal

abbrev pub invariant-loop-i : goal.invariant-loop-i
invariant-loop-i l = l.end ≤ length l.words → l.bytes.items ++ spelled l.before (coming l.words l.i l.end) ≡ text_of (coming l.words l.fn.start l.end)
