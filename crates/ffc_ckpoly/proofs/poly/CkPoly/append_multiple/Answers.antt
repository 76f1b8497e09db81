use Rattle.std.proofs.Common.{◌≡◌, ◌++◌, ◌∙◌, sym, ap₂, subst}
use Rattle.std.specs.Prelude.{OnOk}
use Rattle.ffc_ckpoly.specs.Flat.{cut, RowFits, times}
use Rattle.ffc_ckpoly.specs.Sorted.{IsSortedBy, word_order}
use Rattle.ffc_ckpoly.proofs.SortedLemmas.{sorted_monomials, fits_row}
use Rattle.ffc_ckpoly.proofs.poly.CkPoly.append_multiple.Goals as goal

pub push_row-requires-clause-fits : goal.push_row-requires-clause-fits
push_row-requires-clause-fits g c =
    let value = g.F.Field.value in
    let p = g.F.Field.ORDER in
    let m = c.args.m.now in
    let f = c.args.self.now in
    let view : cut value 0 c.as_slice.result.now c.as_slice-2.result.now ≡ f = ap₂ (cut value 0) c.as_slice.ensures.value c.as_slice-2.ensures.value ∙ c.self.view_is in
    subst (RowFits m) (sym view) (fits_row m f (sorted_monomials p word_order f (subst (IsSortedBy p word_order) c.self.view_is c.self.invariant.1)) c.requires.fits)

pub returns-clause-terms : goal.returns-clause-terms
returns-clause-terms g c =
    let value = g.F.Field.value in
    let p = g.F.Field.ORDER in
    let old = cut value 0 c.args.out.now.marks.items c.args.out.now.powers.items in
    let new = cut value 0 c.push_row.new.self.marks.items c.push_row.new.self.powers.items in
    let view : cut value 0 c.as_slice.result.now c.as_slice-2.result.now ≡ c.args.self.now = ap₂ (cut value 0) c.as_slice.ensures.value c.as_slice-2.ensures.value ∙ c.self.view_is in
    subst (λ x. OnOk c.push_row.result (new ≡ old ++ times p (value c.args.c) c.args.m.now x)) view c.push_row.ensures.terms

pub returns-clause-row : goal.returns-clause-row
returns-clause-row g c =
    let p = g.F.Field.ORDER in
    let f = c.args.self.now in
    fits_row c.args.m.now f (sorted_monomials p word_order f (subst (IsSortedBy p word_order) c.self.view_is c.self.invariant.1)) c.requires.fits
