use Rattle.std.proofs.Common.{◌≡◌, ◌++◌, drop}
use Rattle.ffc_ckpoly.specs.Flat.{cut, Parts}
use Rattle.ffc_ckpoly.specs.Sorted.{residues}
use Rattle.ffc_ckpoly.proofs.buffer.terms_of.Given as goal

abbrev pub invariant-loop-mark : goal.invariant-loop-mark
invariant-loop-mark g l = record {
  parts : Parts l.start (drop l.mark-index l.marks) l.rest;
  so_far : residues g.F.Field.value l.out.items ++ cut g.F.Field.value l.start (drop l.mark-index l.marks) l.rest ≡ cut g.F.Field.value 0 l.marks l.powers;
}
