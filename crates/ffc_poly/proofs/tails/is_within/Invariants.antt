use Rattle.std.proofs.Common.{◌≡◌, ◌+◌, take, length}
use Rattle.ffc_poly.specs.Ordered.{sum_of}
use Rattle.ffc_poly.proofs.tails.is_within.Given as goal

abbrev pub invariant-loop-tail : goal.invariant-loop-tail
invariant-loop-tail g l = l.left + length (sum_of (take l.tail-index l.tails)) ≡ l.limit
