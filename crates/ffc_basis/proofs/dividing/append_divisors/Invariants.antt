use Rattle.std.proofs.Common.{◌<◌, All, length}
use Rattle.ffc_basis.proofs.dividing.append_divisors.Given as goal

abbrev pub invariant-loop-number : goal.invariant-loop-number
invariant-loop-number g l = All (λ i. i < length l.lines) l.found.items
