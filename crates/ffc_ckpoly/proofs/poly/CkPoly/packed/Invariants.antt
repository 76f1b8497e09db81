use Rattle.std.proofs.Common.{◌≡◌, ◌++◌, drop}
use Rattle.ffc_ckpoly.specs.Flat.{cut, Parts}
use Rattle.ffc_ckpoly.specs.Sorted.{residues}
use Rattle.ffc_ckpoly.proofs.poly.CkPoly.packed.Given as goal

abbrev pub invariant-loop-term : goal.invariant-loop-term
invariant-loop-term g l =
    let value = g.F.Field.value in
    record {
      parts : Parts 0 l.buffer.marks.items l.buffer.powers.items;
      so_far : cut value 0 l.buffer.marks.items l.buffer.powers.items ++ residues value (drop l.term-index l.terms) ≡ residues value l.terms;
    }
