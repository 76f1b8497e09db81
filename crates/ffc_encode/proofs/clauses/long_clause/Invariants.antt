use Rattle.std.proofs.Common.{◌≡◌, ◌∷◌, map, take}
use Rattle.ffc_encode.proofs.clauses.long_clause.Given as goal

abbrev pub invariant-loop-id : goal.invariant-loop-id
invariant-loop-id l = l.lits.items ≡ l.fn.first ∷ map (λ a. (l.positive, a)) (take l.id-index l.ids)
