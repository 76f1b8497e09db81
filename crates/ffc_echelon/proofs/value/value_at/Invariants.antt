use Rattle.std.proofs.Common.{◌≡◌, map, take}
use Rattle.ffc_echelon.specs.Vectors.{dot}
use Rattle.ffc_echelon.proofs.PointLemmas.{residues}
use Rattle.ffc_echelon.proofs.value.value_at.Given as goal

abbrev pub invariant-loop-entry : goal.invariant-loop-entry
invariant-loop-entry g l =
    let value = g.F.Field.value in
    value l.value ≡ dot g.F.Field.ORDER (map value l.point) (residues value (take l.entry-index l.coordinates))
