use Rattle.std.proofs.Common.{◌≡◌, drop}
use Rattle.ffc_basis.specs.PairTable.{over_of}
use Rattle.ffc_basis.proofs.pairing.has_over.Given as goal

abbrev pub invariant-loop-r : goal.invariant-loop-r
invariant-loop-r l = over_of (drop l.r-index l.records) ≡ over_of l.records
