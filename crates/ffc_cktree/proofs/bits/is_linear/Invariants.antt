use Rattle.std.proofs.Common.{◌≡◌, drop}
use Rattle.ffc_trees.specs.BitLines.{is_linear}
use Rattle.ffc_ckpoly.specs.Sorted.{residues}
use Rattle.ffc_cktree.proofs.bits.is_linear.Given as goal

abbrev pub invariant-loop-term : goal.invariant-loop-term
invariant-loop-term g l = is_linear (residues g.F.Field.value (drop l.term-index l.terms)) ≡ is_linear (residues g.F.Field.value l.terms)
