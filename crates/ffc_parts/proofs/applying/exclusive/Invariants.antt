use Rattle.std.proofs.Common.{◌≡◌, drop}
use Rattle.ffc_term.specs.declared.node.Sort.TheVariants as sort
use Rattle.ffc_smt.specs.Asking.{IsSortAt}
use Rattle.ffc_smt.specs.Making.{exclusive}
use Rattle.ffc_parts.specs.Growing.{AreAllAt, Grows}
use Rattle.ffc_parts.proofs.applying.exclusive.Given as goal

abbrev pub invariant-loop-b : goal.invariant-loop-b
invariant-loop-b l = record {
  whole : exclusive l.fn.table l.fn.first l.rest ≡ exclusive l.table l.made (drop l.b-index l.rest);
  grows : Grows l.fn.table l.table;
  at : IsSortAt l.table sort.Bool l.made;
  each : AreAllAt l.table sort.Bool l.rest;
}
