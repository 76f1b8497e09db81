use Rattle.std.proofs.Common.{◌≡◌, ℕ, ◌+◌, ◌≤◌, Some, false, map, set, take, count_by, slice_get}
use Rattle.ffc_echelon.specs.Placing.{AreApart, is_marked}
use Rattle.ffc_echelon.proofs.placing.mark_roots.Given as goal

abbrev pub invariant-loop-member : goal.invariant-loop-member
invariant-loop-member g l = record {
  few : count_by is_marked l.marks ≤ count_by is_marked l.initial.marks + l.member-index;
  apart :
      (y : ℕ) → slice_get l.marks y ≡ Some false
      → AreApart g.F.Field.ORDER (set (map g.F.Field.value l.point) l.column y) l.forms (take l.member-index l.group);
}
