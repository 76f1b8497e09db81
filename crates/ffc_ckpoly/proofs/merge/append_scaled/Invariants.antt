use Rattle.std.proofs.Common.{◌≡◌, ◌++◌, drop}
use Rattle.ffc_ckpoly.specs.Sorted.{residues, multiplied}
use Rattle.ffc_ckpoly.proofs.merge.append_scaled.Given as goal

abbrev pub invariant-loop-term : goal.invariant-loop-term
invariant-loop-term g l =
    let value = g.F.Field.value in
    let p = g.F.Field.ORDER in
    residues value l.out.items ++ multiplied p (value l.c) (residues value (drop l.term-index l.terms))
    ≡ residues value l.fn.out.items ++ multiplied p (value l.c) (residues value l.terms)
