use Rattle.std.proofs.Common.{drop}
use Rattle.ffc_smt.specs.Making.{differences}
use Rattle.ffc_parts.specs.Growing.{AllOfOneSort, IsGoing}
use Rattle.ffc_parts.proofs.applying.differences.Given as goal

abbrev pub invariant-loop-i : goal.invariant-loop-i
invariant-loop-i l = record {
  going : IsGoing l.fn.table l.table (differences l.fn.table l.ids) (differences l.table (drop l.i l.ids)) l.fn.parts.items l.parts.items;
  alike : AllOfOneSort l.table l.ids;
}
