use Rattle.std.proofs.Common.{◌≡◌, drop}
use Rattle.ffc_trees.specs.TreeLines.{is_in}
use Rattle.ffc_ckpoly.specs.Sorted.{residues}
use Rattle.ffc_ckpoly.proofs.univariate.are_powers.Given as goal

abbrev pub invariant-loop-term : goal.invariant-loop-term
invariant-loop-term g l = is_in l.x (residues g.F.Field.value (drop l.term-index l.terms)) ≡ is_in l.x (residues g.F.Field.value l.terms)
