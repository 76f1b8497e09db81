use Rattle.std.proofs.Common.{◌≡◌, ◌++◌, map, take}
use Rattle.ffc_macaulay.proofs.multiples.append.Given as goal

abbrev pub invariant-loop-multiplier : goal.invariant-loop-multiplier
invariant-loop-multiplier l = l.multiples.items ≡ l.fn.multiples.items ++ map (λ u. (l.generator, u)) (take l.multiplier-index l.multipliers)
