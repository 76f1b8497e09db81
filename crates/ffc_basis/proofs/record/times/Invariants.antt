use Rattle.std.proofs.Common.{take}
use Rattle.ffc_basis.specs.Outcomes.{AreScaled}
use Rattle.ffc_basis.proofs.RecordLemmas.{AreEachPolynomials}
use Rattle.ffc_basis.proofs.record.times.Given as goal

abbrev pub invariant-loop-part : goal.invariant-loop-part
invariant-loop-part g l = record {
  scaled : AreScaled g.F.Field.ORDER (g.F.Field.value l.c) (take l.part-index l.multiples) l.parts.items;
  each : AreEachPolynomials g.F.Field.ORDER g.O.MonoOrder.cmp l.parts.items;
}
