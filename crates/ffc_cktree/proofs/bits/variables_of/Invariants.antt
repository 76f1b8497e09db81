use Rattle.std.proofs.Common.{◌≡◌, drop}
use Rattle.ffc_trees.specs.BitLines.{variables_of}
use Rattle.ffc_ckpoly.specs.Sorted.{residues}
use Rattle.ffc_cktree.proofs.bits.variables_of.Given as goal

abbrev pub invariant-loop-place : goal.invariant-loop-place
invariant-loop-place g l = l.variables.items ≡ variables_of (residues g.F.Field.value (drop l.place l.terms))
