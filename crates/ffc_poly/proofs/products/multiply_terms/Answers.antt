use Rattle.ffc_mono.specs.declared.mono.TheConstants.{DEGREE_LIMIT}
use Rattle.std.proofs.Common.{◌≡◌, length}
use Rattle.ffc_ring.specs.Polynomial.{SamePolynomial, term_product}
use Rattle.ffc_poly.specs.Ordered.{IsOrdered, times}
use Rattle.ffc_poly.proofs.Clauses.{IfOk-from_value}
use Rattle.ffc_poly.proofs.ProductLemmas.{times_is}
use Rattle.ffc_poly.proofs.products.multiply_terms.Goals as goal

pub returns : goal.returns
returns g c =
    let p = g.F.Field.ORDER in
    let cmp = g.O.MonoOrder.cmp in
    let k = g.F.Field.value c.args.c in
    let m = c.args.m.powers.now in
    let terms = c.args.terms.now in
    let products = times p k m terms in
    let is =
    times_is p g.met.F.Field.prime cmp g.met.O.MonoOrder.laws DEGREE_LIMIT k c.requires.c_is (g.met.F.Field.below c.args.c) m c.args.m.is_monomial terms c.requires.terms_are c.requires.fits in
    record {
      ordered = IfOk-from_value c.times_term.result products (λ v. IsOrdered p cmp DEGREE_LIMIT v) c.times_term.ensures is.0;
      same = IfOk-from_value c.times_term.result products (λ v. SamePolynomial p v (term_product k m terms)) c.times_term.ensures is.1;
      length = IfOk-from_value c.times_term.result products (λ v. length v ≡ length terms) c.times_term.ensures is.2;
    }
