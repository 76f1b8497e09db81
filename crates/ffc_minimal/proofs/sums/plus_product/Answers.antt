use Rattle.std.proofs.Common.{◌∙◌, refl}
use Rattle.ffc_ring.specs.Polynomial.{Terms, product}
use Rattle.ffc_ring.proofs.PolynomialLemmas.{same_sums}
use Rattle.ffc_minimal.proofs.sums.plus_product.Goals as goal

pub returns-in-Ok-add : goal.returns-in-Ok-add
returns-in-Ok-add g c = λ m.
    let sum : Terms = c.args.sum.now in
    c.in-Ok-add.ensures.sum m
    ∙ same_sums g.F.Field.ORDER sum sum c.in-Ok.product (product c.args.a.now c.args.b.now) (λ _. refl) c.in-Ok.ensures.product m
