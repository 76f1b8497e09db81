use Rattle.std.proofs.Common.{◌≡◌, ℕ, ◌++◌, [], refl, arith}
use Rattle.std.proofs.lemmas.Result.{IfOk-weaker, on_ok_weaker}
use Rattle.ffc_field.specs.Modular.{add_mod}
use Rattle.ffc_ring.specs.Polynomial.{SamePolynomial, scaled, poly_value}
use Rattle.ffc_poly.specs.declared.poly.TheConstants.{TERM_LIMIT}
use Rattle.ffc_poly.proofs.Clauses.{IfOk-same, value_of_sum, sum_by_one, sum_is_short}
use Rattle.ffc_poly.proofs.poly.Poly.add.Goals as goal

pub returns : goal.returns
returns g c =
    let p = g.F.Field.ORDER in
    let a = c.args.self.now in
    let b = c.args.other.now in
    let one = g.F.Field.value c.of.result in
    let given = c.add_scaled.ensures in
    let same : SamePolynomial p (a ++ scaled one b) (a ++ b) = sum_by_one p one a b (omega (arith, g.met.F.Field.prime.least)) c.of.ensures in
    let sum = IfOk-same p c.add_scaled.result (a ++ scaled one b) (a ++ b) same given.sum in
    record {
      sum = sum;
      value = IfOk-weaker c.add_scaled.result (λ v. SamePolynomial p v (a ++ b)) (λ v. (point : ℕ → ℕ) → poly_value p point v ≡ add_mod p (poly_value p point a) (poly_value p point b)) (λ v. value_of_sum p v a b) sum;
      fits = on_ok_weaker c.add_scaled.result (λ h. h (a ++ b) same) given.fits;
      terms_over = λ refused. given.over refused (a ++ b) same;
      short = λ few refused. sum_is_short p TERM_LIMIT one [] a b (a ++ scaled one b) few (λ _. refl) (given.over refused (a ++ scaled one b) (λ _. refl));
      no_product = given.no_product;
    }
