use Rattle.std.proofs.Common.{◌≡◌, take}
use Rattle.ffc_poly.specs.Ordered.{residues}
use Rattle.ffc_basis.proofs.record.listed.Given as goal

abbrev pub invariant-loop-place : goal.invariant-loop-place
invariant-loop-place g l = residues g.F.Field.value l.terms.items ≡ take l.place l.poly
