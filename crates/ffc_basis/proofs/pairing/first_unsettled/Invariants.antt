use Rattle.std.proofs.Common.{take}
use Rattle.ffc_basis.specs.PairTable.{AreSettled}
use Rattle.ffc_basis.proofs.pairing.first_unsettled.Given as goal

abbrev pub invariant-loop-place : goal.invariant-loop-place
invariant-loop-place l = AreSettled (take l.place l.records)
