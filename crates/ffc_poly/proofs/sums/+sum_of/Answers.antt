use Rattle.std.proofs.Common.{◌++◌, ◌∙◌, arith}
use Rattle.std.proofs.lemmas.Result.{IfOk-weaker}
use Rattle.ffc_ring.specs.Polynomial.{SamePolynomial, scaled}
use Rattle.ffc_poly.specs.Ordered.{residues}
use Rattle.ffc_poly.proofs.Lists.{halved}
use Rattle.ffc_poly.proofs.Clauses.{sum_by_one}
use Rattle.ffc_poly.proofs.ProductLemmas.{SamePolynomial-halves}
use Rattle.ffc_poly.proofs.sums.+sum_of.Goals as goal

pub returns-in_ok-back-in_default-clause-same : goal.returns-in_ok-back-in_default-clause-same
returns-in_ok-back-in_default-clause-same g t c =
    let value = g.F.Field.value in
    let p = g.F.Field.ORDER in
    let front = residues value c.split_at.result.0.now in
    let back = residues value c.split_at.result.1.now in
    let all = residues value c.args.terms.now in
    let x = c.in_ok-front-in_default.front in
    let y = c.in_ok-back-in_default.back in
    let whole = halved value c.args.terms.now c.split_at.result.0.now c.split_at.result.1.now _ c.split_at.ensures.front c.split_at.ensures.back in
    let both : SamePolynomial p (x ++ scaled (value c.of.result) y) (x ++ y) = sum_by_one p (value c.of.result) x y (omega (arith, g.met.F.Field.prime.least)) c.of.ensures in
    IfOk-weaker c.add_scaled.result (λ v. SamePolynomial p v (x ++ scaled (value c.of.result) y)) (λ v. SamePolynomial p v all)
    (λ v h. SamePolynomial-halves p v x y front back all (λ m. h m ∙ both m) c.in_ok-front-in_default.ensures.same c.in_ok-back-in_default.ensures.same whole)
    c.add_scaled.ensures.same
