use Rattle.std.proofs.Common.{drop}
use Rattle.ffc_smt.specs.Making.{differences_from}
use Rattle.ffc_parts.specs.Growing.{AreOfOneSort, IsGoing}
use Rattle.ffc_parts.proofs.applying.differences_from.Given as goal

abbrev pub invariant-loop-b : goal.invariant-loop-b
invariant-loop-b l = record {
  going : IsGoing l.fn.table l.table (differences_from l.fn.table l.a l.rest) (differences_from l.table l.a (drop l.b-index l.rest)) l.fn.parts.items l.parts.items;
  alike : AreOfOneSort l.table l.a l.rest;
}
