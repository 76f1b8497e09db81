use Rattle.std.proofs.Common.{◌≡◌, ℕ, ◌++◌, [], refl, arith}
use Rattle.std.proofs.lemmas.Result.{IfOk-weaker, on_ok_weaker}
use Rattle.ffc_field.specs.Modular.{sub_mod}
use Rattle.ffc_ring.specs.Polynomial.{SamePolynomial, scaled, difference, poly_value}
use Rattle.ffc_poly.specs.declared.poly.TheConstants.{TERM_LIMIT}
use Rattle.ffc_poly.proofs.Clauses.{IfOk-same, value_of_difference, difference_by_minus_one, sum_is_short}
use Rattle.ffc_poly.proofs.poly.Poly.sub.Goals as goal

pub returns : goal.returns
returns g c =
    let p = g.F.Field.ORDER in
    let a = c.args.self.now in
    let b = c.args.other.now in
    let minus = g.F.Field.value c.neg.result in
    let given = c.add_scaled.ensures in
    let same : SamePolynomial p (a ++ scaled minus b) (difference p a b) =
    difference_by_minus_one p (g.F.Field.value c.of.result) minus a b (omega (arith, g.met.F.Field.prime.least)) c.of.ensures c.neg.ensures in
    let difference_is = IfOk-same p c.add_scaled.result (a ++ scaled minus b) (difference p a b) same given.sum in
    record {
      difference = difference_is;
      value = IfOk-weaker c.add_scaled.result (λ v. SamePolynomial p v (difference p a b)) (λ v. (point : ℕ → ℕ) → poly_value p point v ≡ sub_mod p (poly_value p point a) (poly_value p point b))
          (λ v. value_of_difference p (omega (arith, g.met.F.Field.prime.least)) v a b) difference_is;
      fits = on_ok_weaker c.add_scaled.result (λ h. h (difference p a b) same) given.fits;
      terms_over = λ refused. given.over refused (difference p a b) same;
      short = λ few refused. sum_is_short p TERM_LIMIT minus [] a b (a ++ scaled minus b) few (λ _. refl) (given.over refused (a ++ scaled minus b) (λ _. refl));
      no_product = given.no_product;
    }
