use Rattle.std.proofs.Common.{sym, ap₂, subst}
use Rattle.ffc_ckpoly.specs.Flat.{cut, HaveMonomials}
use Rattle.ffc_ckpoly.specs.Sorted.{word_order}
use Rattle.ffc_ckpoly.proofs.SortedLemmas.{sorted_monomials}
use Rattle.ffc_ckpoly.proofs.poly.CkPoly.degree.Goals as goal

pub greatest_degree-requires-clause-monomials : goal.greatest_degree-requires-clause-monomials
greatest_degree-requires-clause-monomials g c =
    subst HaveMonomials (sym (ap₂ (cut g.F.Field.value 0) c.as_slice.ensures.value c.as_slice-2.ensures.value))
    (sorted_monomials g.F.Field.ORDER word_order _ c.self.invariant.1)
