use Rattle.std.proofs.Common.{◌≡◌, take}
use Rattle.ffc_rules.specs.Cores.{names_at}
use Rattle.ffc_answer.specs.Seen.{assumed_texts}
use Rattle.ffc_answer.proofs.cores.assumptions_at.Given as goal

abbrev pub invariant-loop-number : goal.invariant-loop-number
invariant-loop-number l = l.texts.items ≡ names_at (assumed_texts l.assertions l.asked) (take l.number-index l.numbers)
