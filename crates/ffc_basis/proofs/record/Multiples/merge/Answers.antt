use Rattle.std.proofs.Common.{◌∷◌, [], ◌++◌, sym, ap, ◌∙◌, subst, Err}
use Rattle.ffc_ring.specs.Polynomial.{Terms, AreTerms, coefficient}
use Rattle.ffc_ring.proofs.PolynomialLemmas.{same_sums}
use Rattle.ffc_poly.specs.declared.stop.PolyStop.TheVariants.{TermsOver}
use Rattle.ffc_basis.proofs.Lists.{same_error}
use Rattle.ffc_basis.proofs.OrderedTerms.{AreTerms-ordered, PassesTerms-same}
use Rattle.ffc_basis.proofs.record.Multiples.merge.Goals as goal

pub returns-in-Err-clause-over : goal.returns-in-Err-clause-over
returns-in-Err-clause-over g c = λ over.
    let p = g.F.Field.ORDER in
    let old : Terms = c.args.self.now.1 in
    let term : Terms = (g.F.Field.value c.args.c, c.args.m.now) ∷ [] in
    let whole : Terms = c.in_ok-whole.whole in
    let single : Terms = c.in_ok-single.single in
    PassesTerms-same p 131072 (whole ++ single) (old ++ term) (same_sums p whole old single term c.in_ok-whole.ensures c.in_ok-single.ensures) (c.in-Err.ensures.terms_over (ap (λ stop. Err stop) (same_error c.in-Err.stop TermsOver over)))

pub returns-clause-sum : goal.returns-clause-sum
returns-clause-sum g c = λ m.
    let p = g.F.Field.ORDER in
    let old : Terms = c.args.self.now.1 in
    let term : Terms = (g.F.Field.value c.args.c, c.args.m.now) ∷ [] in
    let whole : Terms = c.in_ok-whole.whole in
    let single : Terms = c.in_ok-single.single in
    ap (λ ts. coefficient p ts m) c.in_ok-self-inside.ensures ∙ c.in-Ok.ensures.sum m
    ∙ same_sums p whole old single term c.in_ok-whole.ensures c.in_ok-single.ensures m

pub returns-clause-terms : goal.returns-clause-terms
returns-clause-terms g c = λ _.
    subst AreTerms (sym c.in_ok-self-inside.ensures) (AreTerms-ordered g.F.Field.ORDER g.O.MonoOrder.cmp 1024 c.in-Ok.sum c.len-length.ensures.ordered)
