use Rattle.std.proofs.Common.{All, map, take}
use Rattle.ffc_echelon.specs.Vectors.{AreCoordinates}
use Rattle.ffc_echelon.specs.Placing.{AreGroups}
use Rattle.ffc_echelon.proofs.grouping.groups_of.Given as goal

abbrev pub invariant-loop-number : goal.invariant-loop-number
invariant-loop-number g l = record {
  groups : AreGroups g.F.Field.ORDER g.F.Field.value l.unknowns l.forms l.number (map (λ h. h.items) l.groups.items);
  valid : All (AreCoordinates g.F.Field.ORDER) (take l.number l.forms);
}
