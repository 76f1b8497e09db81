use Rattle.std.proofs.Common.{◌<◌, ◌+◌, ◌-◌, ◌/◌, ◌++◌, ◌%◌, length, sym, ap, ◌∙◌, subst, arith}
use Rattle.std.proofs.lemmas.Result.{IfOk-weaker}
use Rattle.std.specs.Prelude.{slice_range}
use Rattle.ffc_ring.specs.Polynomial.{SamePolynomial, written, product, term_product, scaled}
use Rattle.ffc_mono.specs.declared.mono.TheConstants.{DEGREE_LIMIT}
use Rattle.ffc_poly.specs.Ordered.{RowFits}
use Rattle.ffc_poly.proofs.Clauses.{IfOk-same, sum_by_one}
use Rattle.ffc_poly.proofs.Coefficients.{IsOrdered-at, ProductFits-at}
use Rattle.ffc_poly.proofs.ProductLemmas.{product_of_one, product_of_halves}
use Rattle.ffc_poly.proofs.products.+product_of.Goals as goal

pub multiply_terms-requires-clause-c_is : goal.multiply_terms-requires-clause-c_is
multiply_terms-requires-clause-c_is g t c =
    let low : c.args.from < length c.args.a.now = omega (arith, c.requires.within, c.if-count-eq1.true) in
    let coefficient = IsOrdered-at g.F.Field.ORDER g.O.MonoOrder.cmp DEGREE_LIMIT c.args.a.now c.args.from c.requires.a_is low in
    λ z. omega (arith, coefficient.0, z, c.get-c.ensures.coefficient)

pub multiply_terms-requires-clause-fits : goal.multiply_terms-requires-clause-fits
multiply_terms-requires-clause-fits g t c =
    let low : c.args.from < length c.args.a.now = omega (arith, c.requires.within, c.if-count-eq1.true) in
    subst (λ m. RowFits DEGREE_LIMIT m c.args.b.now) (sym c.get-c.ensures.monomial) (ProductFits-at DEGREE_LIMIT c.args.a.now c.args.b.now c.args.from c.requires.fits low)

pub returns-then-count-eq1-clause-same : goal.returns-then-count-eq1-clause-same
returns-then-count-eq1-clause-same g t c =
    let p = g.F.Field.ORDER in
    let b = c.args.b.now in
    let k = g.F.Field.value c.get-c.result.0 in
    let m = c.get-c.result.1.powers.now in
    let all = product (slice_range c.args.a.now c.args.from c.args.to) b in
    let only = product_of_one c.args.a.now b c.args.from c.args.to k m c.get-c.ensures.coefficient c.get-c.ensures.monomial (omega (arith, c.if-count-eq1.true)) c.requires.within in
    IfOk-same p c.multiply_terms.result (term_product k m b) all (λ n. ap (λ ts. written ts n % p) only) c.multiply_terms.ensures.same

pub returns-clause-same : goal.returns-clause-same
returns-clause-same g t c =
    let p = g.F.Field.ORDER in
    let a = c.args.a.now in
    let b = c.args.b.now in
    let one = g.F.Field.value c.of.result in
    let mid = c.args.from + (c.args.to - c.args.from) / 2 in
    let x = c.in_ok-front.front in
    let y = c.in_ok-back.back in
    let both : SamePolynomial p (x ++ scaled one y) (x ++ y) = sum_by_one p one x y (omega (arith, g.met.F.Field.prime.least)) c.of.ensures in
    IfOk-weaker c.add_scaled.result (λ v. SamePolynomial p v (x ++ scaled one y)) (λ v. SamePolynomial p v (product (slice_range a c.args.from c.args.to) b))
    (λ v h. product_of_halves p a b c.args.from mid c.args.to v x y (omega arith) (omega (arith, c.requires.between)) (λ m. h m ∙ both m) c.in_ok-front.ensures.same c.in_ok-back.ensures.same)
    c.add_scaled.ensures.same
