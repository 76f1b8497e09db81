use Rattle.std.proofs.Common.{◌≡◌, length}
use Rattle.ffc_echelon.proofs.ordering.counts_of.Given as goal

abbrev pub invariant-loop-vector : goal.invariant-loop-vector
invariant-loop-vector g l = length l.counts.items ≡ l.unknowns
