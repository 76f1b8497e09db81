use Rattle.std.proofs.Common.{drop}
use Rattle.ffc_ckpoly.specs.Sorted.{residues, IsSorted}
use Rattle.ffc_ckpoly.proofs.merge.is_sorted.Given as goal

abbrev pub invariant-loop-place : goal.invariant-loop-place
invariant-loop-place g l = IsSorted g.F.Field.ORDER (residues g.F.Field.value (drop l.place l.terms))
