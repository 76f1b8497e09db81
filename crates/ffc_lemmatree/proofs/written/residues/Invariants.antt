use Rattle.std.proofs.Common.{◌≡◌, map, take}
use Rattle.ffc_lemmatree.proofs.written.residues.Given as goal

abbrev pub invariant-loop-place : goal.invariant-loop-place
invariant-loop-place g l = l.residues.items ≡ map g.F.Field.value (take l.place l.elements)
