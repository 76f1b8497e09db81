use Rattle.std.proofs.Common.{◌+◌, ◌-◌, ◌*◌}
use Rattle.ffc_base.specs.Metering.{total}
use Rattle.ffc_dense.specs.Tables.{AreMultiplesOf}
use Rattle.ffc_line.specs.Lines.{polys_of}
use Rattle.ffc_basis.specs.Reduction.{AreIrreducible}
use Rattle.ffc_basis.specs.Units.{TakesReductions}
use Rattle.ffc_basis.specs.Remainders.{IsRecordedReduction, IsCounted}
use Rattle.ffc_basis.proofs.reduction.reduce_recorded.Given as goal

abbrev pub invariant-loop-place : goal.invariant-loop-place
invariant-loop-place g l = record {
  reduction : IsRecordedReduction g.F.Field.ORDER g.O.MonoOrder.cmp (polys_of l.lines) l.poly l.rest l.parts;
  irreducible : AreIrreducible g.F.Field.ORDER g.O.MonoOrder.cmp (polys_of l.lines) l.rest l.place;
  table : AreMultiplesOf g.F.Field.ORDER (polys_of l.lines) l.table.1;
  takes : TakesReductions l.fn.meter l.meter;
  counted : IsCounted g.F.Field.ORDER g.O.MonoOrder.cmp (polys_of l.lines) l.poly l.rest l.fn.meter l.meter;
}

abbrev pub decreases-loop-place : goal.decreases-loop-place
decreases-loop-place g l = (l.meter.budget - total l.meter) * 131073 + (131072 - l.place)
