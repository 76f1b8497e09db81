use Rattle.std.proofs.Common.{◌≡◌, map, take}
use Rattle.ffc_roots.proofs.ordered.elements_of.Given as goal

abbrev pub invariant-loop-residue : goal.invariant-loop-residue
invariant-loop-residue g l = map g.F.Field.value l.elements.items ≡ take l.residue-index l.residues
