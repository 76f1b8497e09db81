use Rattle.std.proofs.Common.{◌≡◌, drop}
use Rattle.ffc_trees.specs.BitLines.{divisor_of, terms_besides}
use Rattle.ffc_ckpoly.specs.Sorted.{residues}
use Rattle.ffc_cktree.proofs.extent.divisor_besides.Given as goal

abbrev pub invariant-loop-place : goal.invariant-loop-place
invariant-loop-place g l = l.divisor ≡ divisor_of g.F.Field.ORDER (terms_besides l.xs (residues g.F.Field.value (drop l.place l.terms)))
