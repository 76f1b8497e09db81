use Rattle.std.proofs.Common.{◌≡◌, map, take}
use Rattle.ffc_echelon.proofs.ordering.unknowns_of.Given as goal

abbrev pub invariant-loop-pair : goal.invariant-loop-pair
invariant-loop-pair l = l.order.items ≡ map (λ e. e.1) (take l.pair-index l.pairs)
