use Rattle.std.proofs.Common.{◌≡◌, length}
use Rattle.ffc_echelon.proofs.ordering.count_in.Given as goal

abbrev pub invariant-loop-column : goal.invariant-loop-column
invariant-loop-column g l = length l.counts ≡ length l.initial.counts
