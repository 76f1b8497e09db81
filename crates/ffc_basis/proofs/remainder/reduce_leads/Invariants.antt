use Rattle.ffc_dense.specs.Tables.{AreMultiplesOf}
use Rattle.ffc_line.specs.Lines.{polys_of}
use Rattle.ffc_basis.specs.Reduction.{IsReduced}
use Rattle.ffc_basis.specs.Remainders.{Continues, IsSplit, front_of, whole_of}
use Rattle.ffc_basis.specs.Units.{TakesReductions}
use Rattle.ffc_basis.proofs.remainder.reduce_leads.Given as goal

abbrev pub invariant-loop : goal.invariant-loop
invariant-loop g l = record {
  split : IsSplit g.F.Field.ORDER g.O.MonoOrder.cmp (front_of g.F.Field.value l.rest) l.rest.left.0 l.rest.most;
  reduced : IsReduced g.F.Field.ORDER g.O.MonoOrder.cmp (polys_of l.lines) (front_of g.F.Field.value l.rest);
  continues : Continues g.F.Field.ORDER g.O.MonoOrder.cmp (polys_of l.lines) (whole_of g.F.Field.value l.fn.rest) l.fn.parts l.fn.meter (whole_of g.F.Field.value l.rest) l.parts l.meter;
  multiples : AreMultiplesOf g.F.Field.ORDER (polys_of l.lines) l.rest.left.1;
  takes : TakesReductions l.fn.meter l.meter;
}
