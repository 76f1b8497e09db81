use Rattle.std.proofs.Common.{◌≡◌, ◌++◌, drop}
use Rattle.ffc_basis.specs.PairTable.{over_of}
use Rattle.ffc_basis.proofs.pairing.over_pairs.Given as goal

abbrev pub invariant-loop-r : goal.invariant-loop-r
invariant-loop-r l = l.pairs ++ over_of (drop l.r-index l.records) ≡ over_of l.records
