use Rattle.std.proofs.Common.{◌≡◌, ◌++◌, drop}
use Rattle.ffc_ckpoly.specs.Flat.{cut, Parts, ProductFits, rows}
use Rattle.ffc_ckpoly.specs.Sorted.{residues}
use Rattle.ffc_ckpoly.proofs.buffer.products_of.Given as goal

abbrev pub invariant-loop-term : goal.invariant-loop-term
invariant-loop-term g l =
    let value = g.F.Field.value in
    let p = g.F.Field.ORDER in
    let left = residues value (drop l.term-index l.a) in
    let b = cut value 0 l.b.marks.items l.b.powers.items in
    record {
      parts : Parts 0 l.out.marks.items l.out.powers.items;
      fits : ProductFits left b;
      so_far : cut value 0 l.out.marks.items l.out.powers.items ++ rows p left b ≡ rows p (residues value l.a) b;
    }
