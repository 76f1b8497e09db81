use Rattle.std.proofs.Common.{◌++◌, refl, ◌∙◌}
use Rattle.std.proofs.lemmas.Result.{IfOk-weaker}
use Rattle.ffc_ring.specs.Polynomial.{SamePolynomial, term_product}
use Rattle.ffc_ring.proofs.PolynomialLemmas.{same_sums}
use Rattle.ffc_ckpoly.proofs.products.CkSum.with_product.Goals as goal

pub returns : goal.returns
returns g c =
    let p = g.F.Field.ORDER in
    let more = term_product c.args.c c.args.m.now c.args.f.now in
    IfOk-weaker c.with_more.result _ (λ r. SamePolynomial p r (c.args.self ++ more))
    (λ r same m. same m ∙ same_sums p c.in_ok-sum.sum c.args.self more more c.in_ok-sum.ensures (λ k. refl) m) c.with_more.ensures
