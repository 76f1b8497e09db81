use Rattle.std.proofs.Common.{◌≡◌, ◌%◌, ◌++◌, refl, sym, ap, ◌∙◌, subst}
use Rattle.ffc_ring.specs.Polynomial.{written, term_product}
use Rattle.ffc_ring.proofs.PolynomialLemmas.{same_sums}
use Rattle.ffc_ckpoly.specs.Flat.{cut, HaveMonomials, RowFits, times}
use Rattle.ffc_ckpoly.proofs.SortedLemmas.{append_monomials, times_monomials, times_same}
use Rattle.ffc_ckpoly.proofs.products.CkSum.with_more.Goals as goal

pub invariant_of-result : goal.invariant_of-result
invariant_of-result g c =
    let value = g.F.Field.value in
    let p = g.F.Field.ORDER in
    let m = c.args.m.now in
    let f = c.args.f.now in
    let mono : c.as_slice.result.now ≡ m = c.as_slice.ensures.value ∙ c.in_ok-append_written.ensures ∙ ap (λ k. k ++ m) c.clear.ensures.items in
    let fits : RowFits m f = subst (λ k. RowFits k f) mono c.in_ok-append_multiple.ensures.row in
    let old = cut value 0 c.self.inside.buffer.marks.items c.self.inside.buffer.powers.items in
    let k = value c.of.result in
    let all = c.in_ok-append_multiple.ensures.terms ∙ ap (λ x. old ++ times p k x f) mono in
    (c.in_ok-append_multiple.ensures.parts, subst HaveMonomials (sym all) (append_monomials old (times p k m f) c.self.invariant.1 (times_monomials p k m f c.requires.m_is fits)))

pub returns : goal.returns
returns g c =
    let value = g.F.Field.value in
    let p = g.F.Field.ORDER in
    let m = c.args.m.now in
    let f = c.args.f.now in
    let mono : c.as_slice.result.now ≡ m = c.as_slice.ensures.value ∙ c.in_ok-append_written.ensures ∙ ap (λ k. k ++ m) c.clear.ensures.items in
    let old = cut value 0 c.self.inside.buffer.marks.items c.self.inside.buffer.powers.items in
    let k = value c.of.result in
    let all = c.in_ok-append_multiple.ensures.terms ∙ ap (λ x. old ++ times p k x f) mono in
    let reduced : k ≡ c.args.c % p = c.of.ensures ∙ ap (λ j. j % p) c.from.ensures in
    λ n. ap (λ ts. written ts n % p) all
    ∙ same_sums p old old (times p k m f) (term_product c.args.c m f) (λ j. refl) (times_same p c.args.c k m f reduced) n
    ∙ ap (λ ts. written (ts ++ term_product c.args.c m f) n % p) c.self.view_is
