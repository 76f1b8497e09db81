use Rattle.std.proofs.Common.{◌≡◌, ℕ, ◌++◌, ◌∙◌, arith, mod-eq_of_lt}
use Rattle.std.proofs.lemmas.Result.{IfOk-weaker}
use Rattle.ffc_field.specs.Modular.{add_mod}
use Rattle.ffc_ring.specs.Polynomial.{SamePolynomial, poly_value}
use Rattle.ffc_ring.proofs.PolynomialLemmas.{one_value, poly_value-append}
use Rattle.ffc_ckpoly.proofs.SortedLemmas.{sum_of_both}
use Rattle.ffc_ckpoly.proofs.poly.CkPoly.add.Goals as goal

pub returns-clause-sum : goal.returns-clause-sum
returns-clause-sum g c =
    let p = g.F.Field.ORDER in
    let one : g.F.Field.value c.of.result ≡ 1 = c.of.ensures ∙ mod-eq_of_lt (omega (arith, g.met.F.Field.prime.least)) in
    IfOk-weaker c.plus_multiple.result _ (λ r. SamePolynomial p r (c.args.self.now ++ c.args.other.now))
    (λ r h. sum_of_both p (g.F.Field.value c.of.result) r c.args.self.now c.args.other.now one h) c.plus_multiple.ensures.sum

pub returns-clause-value : goal.returns-clause-value
returns-clause-value g c =
    let p = g.F.Field.ORDER in
    let a = c.args.self.now in
    let b = c.args.other.now in
    let one : g.F.Field.value c.of.result ≡ 1 = c.of.ensures ∙ mod-eq_of_lt (omega (arith, g.met.F.Field.prime.least)) in
    IfOk-weaker c.plus_multiple.result _ (λ r. (point : ℕ → ℕ) → poly_value p point r ≡ add_mod p (poly_value p point a) (poly_value p point b))
    (λ r h point. one_value p point r (a ++ b) (sum_of_both p (g.F.Field.value c.of.result) r a b one h) ∙ poly_value-append p point a b) c.plus_multiple.ensures.sum
