use Rattle.std.proofs.Common.{◌<◌, All, length}
use Rattle.ffc_basis.proofs.dividing.divisors.Given as goal

abbrev pub invariant-loop-power : goal.invariant-loop-power
invariant-loop-power g l = All (λ i. i < length l.lines) l.found.items
