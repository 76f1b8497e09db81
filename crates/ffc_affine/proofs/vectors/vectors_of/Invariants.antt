use Rattle.std.proofs.Common.{◌+◌, ◌≤◌, length, All}
use Rattle.ffc_echelon.specs.Vectors.{IsBelow}
use Rattle.ffc_affine.proofs.vectors.vectors_of.Given as goal

abbrev pub invariant-loop-place : goal.invariant-loop-place
invariant-loop-place g l = record {
  below : All (IsBelow (length l.unknowns + 1)) l.vectors.items;
  count : length l.vectors.items ≤ l.place-index;
}
