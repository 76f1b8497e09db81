use Rattle.std.proofs.Common.{◌++◌, [], refl, ◌∙◌, arith}
use Rattle.std.proofs.lemmas.Result.{on_ok_weaker}
use Rattle.ffc_ring.specs.Polynomial.{SamePolynomial, scaled}
use Rattle.ffc_poly.specs.declared.poly.TheConstants.{TERM_LIMIT}
use Rattle.ffc_poly.proofs.Clauses.{sum_by_one, sum_is_short}
use Rattle.ffc_poly.proofs.accumulator.Accumulator.add.Goals as goal

pub returns : goal.returns
returns g c =
    let p = g.F.Field.ORDER in
    let a = c.args.self.now in
    let b = c.args.p.now in
    let one = g.F.Field.value c.of.result in
    let given = c.put.ensures in
    let same : SamePolynomial p (a ++ scaled one b) (a ++ b) = sum_by_one p one a b (omega (arith, g.met.F.Field.prime.least)) c.of.ensures in
    record {
      sum = on_ok_weaker c.put.result (λ h m. h m ∙ same m) given.sum;
      fits = on_ok_weaker c.put.result (λ h. h (a ++ b) same) given.fits;
      terms_over = λ refused. given.over refused (a ++ b) same;
      short = λ few refused. sum_is_short p TERM_LIMIT one [] a b (a ++ scaled one b) few (λ _. refl) (given.over refused (a ++ scaled one b) (λ _. refl));
      no_product = given.no_product;
      unchanged = given.unchanged;
    }
