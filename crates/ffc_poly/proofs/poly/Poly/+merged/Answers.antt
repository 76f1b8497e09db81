use Rattle.std.proofs.Common.{◌≡◌, ◌++◌, sym, ap, ap₂, ◌∙◌, take-append-drop, arith}
use Rattle.std.proofs.lemmas.Result.{IfOk-weaker}
use Rattle.ffc_ring.specs.Polynomial.{SamePolynomial, scaled}
use Rattle.ffc_poly.specs.Ordered.{sum_of}
use Rattle.ffc_poly.proofs.Clauses.{sum_by_one}
use Rattle.ffc_poly.proofs.ProductLemmas.{SamePolynomial-halves}
use Rattle.ffc_poly.proofs.TermLemmas.{sum_of-append}
use Rattle.ffc_poly.proofs.poly.Poly.+merged.Goals as goal

pub returns-in_ok-back-in_default-clause-same : goal.returns-in_ok-back-in_default-clause-same
returns-in_ok-back-in_default-clause-same g t c =
    let p = g.F.Field.ORDER in
    let k = g.F.Field.value c.of.result in
    let front = sum_of c.split_at.result.0.now in
    let back = sum_of c.split_at.result.1.now in
    let all = sum_of c.args.parts.now in
    let x = c.in_ok-front-in_default.front in
    let y = c.in_ok-back-in_default.back in
    let whole : front ++ back ≡ all =
    sym (sum_of-append c.split_at.result.0.now c.split_at.result.1.now)
    ∙ ap sum_of (ap₂ (λ f b. f ++ b) c.split_at.ensures.front c.split_at.ensures.back ∙ take-append-drop _ c.args.parts.now) in
    IfOk-weaker c.add_scaled.result (λ v. SamePolynomial p v (x ++ scaled k y)) (λ v. SamePolynomial p v all)
    (λ v h. SamePolynomial-halves p v x y front back all (λ m. h m ∙ sum_by_one p k x y (omega (arith, g.met.F.Field.prime.least)) c.of.ensures m) c.in_ok-front-in_default.ensures.same c.in_ok-back-in_default.ensures.same whole)
    c.add_scaled.ensures.same
