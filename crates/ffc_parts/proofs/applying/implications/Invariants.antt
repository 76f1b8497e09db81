use Rattle.std.proofs.Common.{◌≡◌, ◌<◌, length, drop}
use Rattle.ffc_term.specs.declared.node.Sort.TheVariants as sort
use Rattle.ffc_smt.specs.Asking.{IsSortAt}
use Rattle.ffc_parts.specs.Growing.{AreAllAt, Grows, implied}
use Rattle.ffc_parts.proofs.applying.implications.Given as goal

abbrev pub invariant-loop-at : goal.invariant-loop-at
invariant-loop-at l = record {
  within : l.at < length l.ids;
  whole : implied l.fn.table (drop l.at l.ids) ≡ record { nodes = l.table; id = l.made };
  grows : Grows l.fn.table l.table;
  here : IsSortAt l.table sort.Bool l.made;
  each : AreAllAt l.table sort.Bool l.ids;
}

abbrev pub decreases-loop-at : goal.decreases-loop-at
decreases-loop-at l = l.at
