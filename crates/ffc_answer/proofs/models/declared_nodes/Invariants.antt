use Rattle.std.proofs.Common.{◌≡◌, map, take}
use Rattle.ffc_answer.proofs.models.declared_nodes.Given as goal

abbrev pub invariant-loop-constant : goal.invariant-loop-constant
invariant-loop-constant l = l.ids.items ≡ map (λ d. d.node) (take l.constant-index l.declared)
