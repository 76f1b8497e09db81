use Rattle.std.proofs.Common.{◌≡◌}
use Rattle.ffc_line.specs.Lines.{polys_of}
use Rattle.ffc_basis.specs.PairTable.{IsLeftOut}
use Rattle.ffc_basis.proofs.pairing.leave_out.Given as goal

abbrev pub invariant-loop : goal.invariant-loop
invariant-loop g l = record {
  left_out : IsLeftOut g.F.Field.ORDER g.O.MonoOrder.cmp (polys_of l.lines) l.fn.pairing.records.items l.pairing.records.items l.pairing.paired;
  paired : l.pairing.paired ≡ l.fn.pairing.paired;
}
