use Rattle.std.proofs.Common.{◌≡◌, ◌-◌, length}
use Rattle.ffc_line.specs.Lines.{polys_of}
use Rattle.ffc_basis.specs.PairTable.{ArePairs, AreFew, seconds, settled_count}
use Rattle.ffc_basis.proofs.pairing.pair_lines.Given as goal

abbrev pub invariant-loop-pairing : goal.invariant-loop-pairing
invariant-loop-pairing g l = record {
  pairs : ArePairs g.F.Field.ORDER g.O.MonoOrder.cmp (polys_of l.lines) l.pairing.records.items l.pairing.paired;
  few : AreFew (seconds l.pairing.records.items) l.pairing.paired;
  settled : settled_count l.pairing.records.items ≡ settled_count l.fn.pairing.records.items;
}

abbrev pub decreases-loop-pairing : goal.decreases-loop-pairing
decreases-loop-pairing g l = length l.lines - l.pairing.paired
