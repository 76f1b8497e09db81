use Rattle.std.proofs.Common.{◌∷◌, [], ap, subst, Err}
use Rattle.ffc_ring.specs.Monomial.{Monomial}
use Rattle.ffc_ring.specs.Polynomial.{Terms, SamePolynomial, term_product, difference, PassesDegree, PassesTerms}
use Rattle.ffc_basis.proofs.SPolynomialLemmas.{first_passes, second_passes, raised_difference}
use Rattle.ffc_basis.proofs.spoly.difference_of.Goals as goal

pub returns-in-Err-clause-over : goal.returns-in-Err-clause-over
returns-in-Err-clause-over g c =
    let p = g.F.Field.ORDER in
    let k = g.F.Field.value c.args.first.now.coefficient in
    let a : Terms = c.args.a.now in
    first_passes p a k c.args.first.now.monomial c.args.b.now (g.F.Field.value c.args.second.now.coefficient) c.args.second.now.monomial c.in-Err.stop
    (λ e. subst (λ (q : Monomial). PassesDegree p 1024 ((k, q) ∷ []) a) c.as_ref.ensures (c.in-Err.ensures.degree_over.0 (ap (λ stop. Err stop) e)))
    (λ e. c.in-Err.ensures.no_more_terms (ap (λ stop. Err stop) e))

pub returns-in-Ok-sub_multiple-clause-difference : goal.returns-in-Ok-sub_multiple-clause-difference
returns-in-Ok-sub_multiple-clause-difference g c =
    let p = g.F.Field.ORDER in
    let k = g.F.Field.value c.args.first.now.coefficient in
    let l = g.F.Field.value c.args.second.now.coefficient in
    let a : Terms = c.args.a.now in
    let b : Terms = c.args.b.now in
    let raised : Terms = c.in-Ok.raised in
    let s : Terms = c.in-Ok-sub_multiple.poly in
    raised_difference p (term_product k c.args.first.now.monomial a) raised s (term_product l c.args.second.now.monomial b)
    (subst (λ (q : Monomial). SamePolynomial p raised (term_product k q a)) c.as_ref.ensures c.in-Ok.ensures.product)
    (subst (λ (q : Monomial). SamePolynomial p s (difference p raised (term_product l q b))) c.as_ref-2.ensures c.in-Ok-sub_multiple.ensures.difference)

pub returns-clause-over : goal.returns-clause-over
returns-clause-over g c =
    let p = g.F.Field.ORDER in
    let k = g.F.Field.value c.args.first.now.coefficient in
    let l = g.F.Field.value c.args.second.now.coefficient in
    let a : Terms = c.args.a.now in
    let b : Terms = c.args.b.now in
    let raised : Terms = c.in-Ok.raised in
    second_passes p a k c.args.first.now.monomial b l c.args.second.now.monomial raised c.in-Err-sub_multiple.stop
    (subst (λ (q : Monomial). SamePolynomial p raised (term_product k q a)) c.as_ref.ensures c.in-Ok.ensures.product)
    (λ e. subst (λ (q : Monomial). PassesDegree p 1024 ((l, q) ∷ []) b) c.as_ref-2.ensures (c.in-Err-sub_multiple.ensures.degree_over.0 (ap (λ stop. Err stop) e)))
    (λ e. subst (λ (q : Monomial). PassesTerms p 131072 (difference p raised (term_product l q b))) c.as_ref-2.ensures (c.in-Err-sub_multiple.ensures.terms_over (ap (λ stop. Err stop) e)))
