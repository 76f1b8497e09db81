use Rattle.std.proofs.Common.{take}
use Rattle.ffc_basis.specs.PairTable.{AreKnown}
use Rattle.ffc_basis.proofs.pairing.first_pending.Given as goal

abbrev pub invariant-loop-place : goal.invariant-loop-place
invariant-loop-place l = AreKnown (take l.place l.records)
