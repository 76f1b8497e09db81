use Rattle.std.proofs.Common.{◌≡◌, ◌+◌, ◌-◌, length}
use Rattle.ffc_dense.specs.Tables.{AreMultiplesOf}
use Rattle.ffc_basis.specs.Indexing.{IsIndexOf}
use Rattle.ffc_line.specs.Lines.{polys_of, AreLines}
use Rattle.ffc_basis.specs.Completed.{IsFront}
use Rattle.ffc_basis.specs.PairTable.{ArePairs, AreFew, seconds, settled_count}
use Rattle.ffc_basis.specs.Units.{TakesReductions, IsPairsBound}
use Rattle.ffc_basis.proofs.pairing.advance.Given as goal

abbrev pub invariant-loop-lines : goal.invariant-loop-lines
invariant-loop-lines g l = record {
  index : IsIndexOf g.F.Field.ORDER g.O.MonoOrder.cmp (polys_of l.lines.items) l.index;
  table : AreMultiplesOf g.F.Field.ORDER (polys_of l.lines.items) l.table.1;
  front : IsFront g.F.Field.ORDER g.O.MonoOrder.cmp l.fn.lines.items l.lines.items;
  lines : AreLines g.F.Field.ORDER l.lines.items;
  pairs : ArePairs g.F.Field.ORDER g.O.MonoOrder.cmp (polys_of l.lines.items) l.pairing.records.items l.pairing.paired;
  few : AreFew (seconds l.pairing.records.items) l.pairing.paired;
  bound : IsPairsBound g.F.Field.ORDER g.O.MonoOrder.cmp (polys_of l.lines.items) (settled_count l.pairing.records.items) l.fn.meter l.meter;
  takes : TakesReductions l.fn.meter l.meter;
  start : l.before ≡ l.fn.meter.reductions;
  counted : l.meter.reductions ≡ l.before + l.taken;
  paired : l.pairing.paired ≡ length l.lines.items;
}

abbrev pub decreases-loop-lines : goal.decreases-loop-lines
decreases-loop-lines g l = l.meter.budget - l.meter.reductions
