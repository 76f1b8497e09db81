use Rattle.std.proofs.Common.{◌≤◌, take}
use Rattle.ffc_basis.specs.Indexing.{IsIndexOf}
use Rattle.ffc_line.specs.Lines.{polys_of}
use Rattle.ffc_basis.proofs.index.Index.cut.Given as goal

abbrev pub invariant-loop-number : goal.invariant-loop-number
invariant-loop-number g l = record {
  from : l.len ≤ l.number;
  index : IsIndexOf g.F.Field.ORDER g.O.MonoOrder.cmp (polys_of l.lines) l.fn.self → IsIndexOf g.F.Field.ORDER g.O.MonoOrder.cmp (take l.number (polys_of l.lines)) l.self;
}
