use Rattle.std.proofs.Common.{sym, subst}
use Rattle.ffc_trees.specs.Normal.{IsNormal}
use Rattle.ffc_ckpoly.specs.Flat.{cut}
use Rattle.ffc_ckpoly.specs.Sorted.{word_order}
use Rattle.ffc_ckpoly.proofs.OrderLemmas.{word_order_exact}
use Rattle.ffc_ckpoly.proofs.SortedLemmas.{sorted_normal, all_residues}
use Rattle.ffc_ckpoly.proofs.poly.CkPoly.packed.Goals as goal

pub returns-clause-normal : goal.returns-clause-normal
returns-clause-normal g c =
    let value = g.F.Field.value in
    let p = g.F.Field.ORDER in
    let all = cut value 0 c.loop-term.buffer.marks.items c.loop-term.buffer.powers.items in
    subst (IsNormal p) (sym (all_residues value all c.loop-term.term-index c.args.terms.now c.loop-term-test.false c.loop-term.invariant.so_far))
    (sorted_normal p word_order word_order_exact _ c.requires)
