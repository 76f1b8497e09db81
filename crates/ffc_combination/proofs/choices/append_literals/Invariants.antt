use Rattle.std.proofs.Common.{◌≡◌, ◌++◌, map, take}
use Rattle.ffc_combination.proofs.choices.append_literals.Given as goal

abbrev pub invariant-loop-id : goal.invariant-loop-id
invariant-loop-id l = l.literals.items ≡ l.fn.literals.items ++ map (λ id. (l.truth, id)) (take l.id-index l.ids)
