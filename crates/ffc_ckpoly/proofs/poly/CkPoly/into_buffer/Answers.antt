use Rattle.ffc_ckpoly.specs.Sorted.{word_order}
use Rattle.ffc_ckpoly.proofs.SortedLemmas.{sorted_monomials}
use Rattle.ffc_ckpoly.proofs.poly.CkPoly.into_buffer.Goals as goal

pub returns-clause-monomials : goal.returns-clause-monomials
returns-clause-monomials g c = sorted_monomials g.F.Field.ORDER word_order _ c.self.invariant.1
