use Rattle.std.proofs.Common.{◌++◌, sym}
use Rattle.std.proofs.lemmas.Result.{on_ok_weaker}
use Rattle.ffc_ring.specs.Polynomial.{SamePolynomial, term_product, difference}
use Rattle.ffc_mono.specs.declared.mono.TheConstants.{DEGREE_LIMIT}
use Rattle.ffc_poly.specs.declared.poly.TheConstants.{TERM_LIMIT}
use Rattle.ffc_poly.proofs.Clauses.{IfOk-same, difference_by_negation, negation_passes}
use Rattle.ffc_poly.proofs.Coefficients.{PassesTerms-same}
use Rattle.ffc_poly.proofs.poly.Poly.sub_multiple.Goals as goal

pub returns : goal.returns
returns g c =
    let p = g.F.Field.ORDER in
    let a = c.args.self.now in
    let m = c.args.m.powers.now in
    let b = c.args.other.now in
    let k = g.F.Field.value c.args.c in
    let minus = g.F.Field.value c.neg.result in
    let below = g.met.F.Field.below c.args.c in
    let sum = a ++ term_product minus m b in
    let all = difference p a (term_product k m b) in
    let given = c.add_multiple.ensures in
    let same : SamePolynomial p sum all = difference_by_negation p k minus m a b below c.neg.ensures in
    let passes = negation_passes p DEGREE_LIMIT k minus m b below (g.met.F.Field.below c.neg.result) c.neg.ensures in
    record {
      difference = IfOk-same p c.add_multiple.result sum all same given.sum;
      fits = on_ok_weaker c.add_multiple.result (λ h over. h (PassesTerms-same p TERM_LIMIT all sum (λ n. sym (same n)) over)) given.fits;
      terms_over = λ refused. PassesTerms-same p TERM_LIMIT sum all same (given.terms_over refused);
      short = given.short;
      degree_over = (λ refused. passes.0 (given.degree_over.0 refused), λ over. given.degree_over.1 (passes.1 over));
    }
