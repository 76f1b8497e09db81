use Rattle.std.proofs.Common.{◌≤◌, length}
use Rattle.ffc_basis.proofs.chain.place_of_pair.Given as goal

abbrev pub invariant-loop-shift : goal.invariant-loop-shift
invariant-loop-shift l = l.high ≤ length l.records
