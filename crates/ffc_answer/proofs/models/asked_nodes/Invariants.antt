use Rattle.std.proofs.Common.{◌≡◌, map, take}
use Rattle.ffc_answer.proofs.models.asked_nodes.Given as goal

abbrev pub invariant-loop-term : goal.invariant-loop-term
invariant-loop-term l = l.ids.items ≡ map (λ a. a.node) (take l.term-index l.asked)
