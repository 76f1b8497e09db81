use Rattle.std.proofs.Common.{◌≡◌, map, take}
use Rattle.ffc_answer.specs.Seen.{pair_with}
use Rattle.ffc_answer.proofs.models.pair_texts.Given as goal

abbrev pub invariant-loop-term : goal.invariant-loop-term
invariant-loop-term l = l.texts.items ≡ map (pair_with l.table l.values) (take l.term-index l.asked)
