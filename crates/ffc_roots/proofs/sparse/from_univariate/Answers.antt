use Rattle.std.proofs.Common.{◌≡◌, ◌%◌, length, map, ap, ◌∙◌, arith}
use Rattle.std.proofs.lemmas.Result.{IfOk-weaker}
use Rattle.ffc_ring.specs.Polynomial.{SamePolynomial, written}
use Rattle.ffc_poly.specs.Ordered.{residues}
use Rattle.ffc_uni.specs.Univariate.{terms_in}
use Rattle.ffc_uni.proofs.Rows.{length-residues}
use Rattle.ffc_roots.proofs.SparseLemmas.{as_many}
use Rattle.ffc_roots.proofs.sparse.from_univariate.Goals as goal

pub returns-clause-same : goal.returns-clause-same
returns-clause-same g c =
    let value = g.F.Field.value in
    let p = g.F.Field.ORDER in
    let v = c.args.variable in
    let listed : residues value c.deref.result.now ≡ terms_in v c.args.u.now =
    ap (residues value) c.deref.ensures.value ∙ c.in_ok-terms.ensures ∙ ap (terms_in v) c.coefs-coefs.ensures.value in
    IfOk-weaker c.from_terms.result (λ r. SamePolynomial p r (residues value c.deref.result.now)) (λ r. SamePolynomial p r (terms_in v c.args.u.now))
    (λ r same n. same n ∙ ap (λ ts. written ts n % p) listed) c.from_terms.ensures.sum

pub returns-clause-few : goal.returns-clause-few
returns-clause-few g c =
    let value = g.F.Field.value in
    let v = c.args.variable in
    let coefs = map value c.coefs-coefs.result.now in
    let many : length c.in_ok-terms.terms.items ≡ length coefs = as_many value v c.in_ok-terms.terms.items coefs c.in_ok-terms.ensures in
    c.from_terms.ensures.short
    (omega (arith, ap length c.deref.ensures.value, many, length-residues value c.coefs-coefs.result.now, c.if-coefs-gt-MOST_COEFFICIENTS.false))
