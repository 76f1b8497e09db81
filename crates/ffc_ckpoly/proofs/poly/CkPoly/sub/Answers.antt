use Rattle.std.proofs.Common.{◌≡◌, ℕ, ◌-◌, ◌∙◌, arith}
use Rattle.std.proofs.lemmas.Result.{IfOk-weaker}
use Rattle.ffc_field.specs.Modular.{sub_mod}
use Rattle.ffc_ring.specs.Polynomial.{SamePolynomial, poly_value, difference}
use Rattle.ffc_ring.proofs.PolynomialLemmas.{one_value, poly_value-difference}
use Rattle.ffc_ckpoly.proofs.SortedLemmas.{minus_one, difference_of_both}
use Rattle.ffc_ckpoly.proofs.poly.CkPoly.sub.Goals as goal

pub returns-clause-difference : goal.returns-clause-difference
returns-clause-difference g c =
    let p = g.F.Field.ORDER in
    let value = g.F.Field.value in
    let less : value c.neg.result ≡ p - 1 = minus_one p (value c.of.result) (value c.neg.result) g.met.F.Field.prime.least c.of.ensures c.neg.ensures in
    IfOk-weaker c.plus_multiple.result _ (λ r. SamePolynomial p r (difference p c.args.self.now c.args.other.now))
    (λ r h. difference_of_both p (value c.neg.result) r c.args.self.now c.args.other.now less h) c.plus_multiple.ensures.sum

pub returns-clause-value : goal.returns-clause-value
returns-clause-value g c =
    let p = g.F.Field.ORDER in
    let value = g.F.Field.value in
    let a = c.args.self.now in
    let b = c.args.other.now in
    let less : value c.neg.result ≡ p - 1 = minus_one p (value c.of.result) (value c.neg.result) g.met.F.Field.prime.least c.of.ensures c.neg.ensures in
    IfOk-weaker c.plus_multiple.result _ (λ r. (point : ℕ → ℕ) → poly_value p point r ≡ sub_mod p (poly_value p point a) (poly_value p point b))
    (λ r h point. one_value p point r (difference p a b) (difference_of_both p (value c.neg.result) r a b less h) ∙ poly_value-difference p (omega (arith, g.met.F.Field.prime.least)) point a b) c.plus_multiple.ensures.sum
