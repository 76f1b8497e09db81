use Rattle.std.proofs.Common.{◌++◌, [], refl, ◌∙◌, arith}
use Rattle.std.proofs.lemmas.Result.{on_ok_weaker}
use Rattle.ffc_ring.specs.Polynomial.{SamePolynomial, scaled, difference}
use Rattle.ffc_poly.specs.declared.poly.TheConstants.{TERM_LIMIT}
use Rattle.ffc_poly.proofs.Clauses.{difference_by_minus_one, sum_is_short}
use Rattle.ffc_poly.proofs.accumulator.Accumulator.subtract.Goals as goal

pub returns : goal.returns
returns g c =
    let p = g.F.Field.ORDER in
    let a = c.args.self.now in
    let b = c.args.p.now in
    let minus = g.F.Field.value c.neg.result in
    let given = c.put.ensures in
    let same : SamePolynomial p (a ++ scaled minus b) (difference p a b) =
    difference_by_minus_one p (g.F.Field.value c.of.result) minus a b (omega (arith, g.met.F.Field.prime.least)) c.of.ensures c.neg.ensures in
    record {
      difference = on_ok_weaker c.put.result (λ h m. h m ∙ same m) given.sum;
      fits = on_ok_weaker c.put.result (λ h. h (difference p a b) same) given.fits;
      terms_over = λ refused. given.over refused (difference p a b) same;
      short = λ few refused. sum_is_short p TERM_LIMIT minus [] a b (a ++ scaled minus b) few (λ _. refl) (given.over refused (a ++ scaled minus b) (λ _. refl));
      no_product = given.no_product;
      unchanged = given.unchanged;
    }
