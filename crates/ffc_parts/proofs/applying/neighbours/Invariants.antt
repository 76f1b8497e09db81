use Rattle.std.proofs.Common.{drop}
use Rattle.ffc_smt.specs.Making.{neighbours}
use Rattle.ffc_parts.specs.Growing.{AreOfOneSort, IsGoing}
use Rattle.ffc_parts.proofs.applying.neighbours.Given as goal

abbrev pub invariant-loop-b : goal.invariant-loop-b
invariant-loop-b l = record {
  going : IsGoing l.fn.table l.table (neighbours l.fn.table l.fn.first l.rest) (neighbours l.table l.last (drop l.b-index l.rest)) l.fn.parts.items l.parts.items;
  alike : AreOfOneSort l.table l.last l.rest;
}
