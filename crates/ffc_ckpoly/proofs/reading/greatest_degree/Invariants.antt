use Rattle.std.proofs.Common.{◌≡◌, drop}
use Rattle.ffc_trees.specs.Normal.{degree_of}
use Rattle.ffc_ckpoly.specs.Flat.{cut, Parts, HaveMonomials}
use Rattle.ffc_ckpoly.proofs.SortedLemmas.{degree_from}
use Rattle.ffc_ckpoly.proofs.reading.greatest_degree.Given as goal

abbrev pub invariant-loop-mark : goal.invariant-loop-mark
invariant-loop-mark g l =
    let left = cut g.F.Field.value l.start (drop l.mark-index l.marks) l.rest in
    record {
      parts : Parts l.start (drop l.mark-index l.marks) l.rest;
      monomials : HaveMonomials left;
      so_far : degree_from l.greatest left ≡ degree_of (cut g.F.Field.value 0 l.marks l.powers);
    }
