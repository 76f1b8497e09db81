use Rattle.std.proofs.Common.{take}
use Rattle.ffc_basis.specs.Indexing.{IsIndexOf}
use Rattle.ffc_line.specs.Lines.{polys_of, AreLists, IsAddedTo}
use Rattle.ffc_basis.proofs.basis.append_generators.Given as goal

abbrev pub invariant-loop-poly : goal.invariant-loop-poly
invariant-loop-poly g l = record {
  index : IsIndexOf g.F.Field.ORDER g.O.MonoOrder.cmp (polys_of l.fn.lines.items) l.fn.index → IsIndexOf g.F.Field.ORDER g.O.MonoOrder.cmp (polys_of l.lines.items) l.index;
  added : IsAddedTo l.fn.lines.items l.lines.items (take l.poly-index l.gens);
  lists : AreLists (polys_of l.fn.lines.items) → AreLists (polys_of l.lines.items);
}
