use Rattle.std.proofs.Common.{drop}
use Rattle.ffc_echelon.specs.Placing.{EndsBefore}
use Rattle.ffc_echelon.proofs.PointLemmas.{residues}
use Rattle.ffc_echelon.proofs.grouping.last_unknown.Given as goal

abbrev pub invariant-loop-place : goal.invariant-loop-place
invariant-loop-place g l = EndsBefore l.unknowns 0 (residues g.F.Field.value (drop l.place l.coordinates))
