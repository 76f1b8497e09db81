use Rattle.std.proofs.Common.{◌≡◌}
use Rattle.ffc_basis.specs.PairTable.{forgotten}
use Rattle.ffc_basis.proofs.Mapped.{mapped_to}
use Rattle.ffc_basis.proofs.pairing.forget_after.Given as goal

abbrev pub invariant-loop-place : goal.invariant-loop-place
invariant-loop-place l = l.records.items ≡ mapped_to (forgotten l.len) l.place l.fn.records.items
