use Rattle.std.proofs.Common.{length, ap, subst, arith}
use Rattle.ffc_trees.specs.Normal.{IsNormal}
use Rattle.ffc_ckpoly.specs.Sorted.{word_order}
use Rattle.ffc_ckpoly.proofs.OrderLemmas.{word_order_exact}
use Rattle.ffc_ckpoly.proofs.SortedLemmas.{sorted_normal, length-cut}
use Rattle.ffc_ckpoly.proofs.poly.CkPoly.terms.Goals as goal

pub returns-clause-count : goal.returns-clause-count
returns-clause-count g c =
    omega (arith, length-cut g.F.Field.value 0 c.self.inside.buffer.marks.items c.self.inside.buffer.powers.items, ap length c.self.view_is, c.len.ensures, c.self.inside.buffer.marks.ok)

pub returns-clause-normal : goal.returns-clause-normal
returns-clause-normal g c =
    subst (IsNormal g.F.Field.ORDER) c.self.view_is (sorted_normal g.F.Field.ORDER word_order word_order_exact _ c.self.invariant.1)
