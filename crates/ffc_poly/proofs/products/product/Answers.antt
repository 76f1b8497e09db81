use Rattle.std.proofs.Common.{◌≡◌, ◌%◌, ap, ◌∙◌}
use Rattle.std.proofs.lemmas.Result.{IfOk-weaker}
use Rattle.std.specs.Prelude.{slice_range}
use Rattle.ffc_ring.specs.Polynomial.{SamePolynomial, product, written}
use Rattle.ffc_ring.proofs.PolynomialLemmas.{product_commutes}
use Rattle.ffc_mono.specs.declared.mono.TheConstants.{DEGREE_LIMIT}
use Rattle.ffc_poly.proofs.Coefficients.{ProductFits-swap, AreTerms-ordered}
use Rattle.ffc_poly.proofs.TermLemmas.{whole_range}
use Rattle.ffc_poly.proofs.products.product.Goals as goal

pub product_of-requires-else-len-clause-fits : goal.product_of-requires-else-len-clause-fits
product_of-requires-else-len-clause-fits g c = ProductFits-swap _ _ _ c.requires.fits

pub returns-else-len-clause-same : goal.returns-else-len-clause-same
returns-else-len-clause-same g c =
    let p = g.F.Field.ORDER in
    let cmp = g.O.MonoOrder.cmp in
    let a = c.args.a.now in
    let b = c.args.b.now in
    let n = c.len-else-len.result in
    let whole : slice_range b 0 n ≡ b = whole_range b n c.len-else-len.ensures in
    IfOk-weaker c.product_of-else-len.result (λ v. SamePolynomial p v (product (slice_range b 0 n) a)) (λ v. SamePolynomial p v (product a b))
    (λ v h m. h m ∙ ap (λ x. written (product x a) m % p) whole
    ∙ product_commutes p b a (AreTerms-ordered p cmp DEGREE_LIMIT b c.requires.b_is) (AreTerms-ordered p cmp DEGREE_LIMIT a c.requires.a_is) m)
    c.product_of-else-len.ensures.same
