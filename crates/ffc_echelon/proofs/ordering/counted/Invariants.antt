use Rattle.std.proofs.Common.{◌≡◌, map}
use Rattle.ffc_echelon.specs.Ordering.{numbers_below}
use Rattle.ffc_echelon.proofs.ordering.counted.Given as goal

abbrev pub invariant-loop-place : goal.invariant-loop-place
invariant-loop-place l = map (λ e. e.1) l.pairs.items ≡ numbers_below l.place
