use Rattle.std.proofs.Common.{◌≡◌, ◌∷◌, map, take}
use Rattle.ffc_check.proofs.schemes.long_clause.Given as goal

abbrev pub invariant-loop-id : goal.invariant-loop-id
invariant-loop-id l = l.clause.items ≡ l.fn.first ∷ map (λ a. (l.sign, a)) (take l.id-index l.ids)
