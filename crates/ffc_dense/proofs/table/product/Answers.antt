use Rattle.std.proofs.Common.{◌≡◌, IfSome, ap, ap₂, ◌∙◌, subst, arith, mod-eq_of_lt}
use Rattle.ffc_ring.specs.Polynomial.{coefficient, term_product}
use Rattle.ffc_dense.specs.Columns.{terms_of}
use Rattle.ffc_dense.proofs.table.product.Goals as goal

pub returns-clause-product : goal.returns-clause-product
returns-clause-product g c m =
    let value = g.F.Field.value in
    let p = g.F.Field.ORDER in
    let terms = subst (λ o. IfSome o (λ ts. terms_of value c.numbered.new.self.0 ts.items ≡ c.in-Ok.product)) c.in-Some.is c.in_ok-terms.ensures.terms in
    ap (λ ts. coefficient p ts m) terms ∙ c.in-Ok.ensures.product m
    ∙ ap₂ (λ k n. coefficient p (term_product k n c.args.q.now) m) (c.of.ensures ∙ mod-eq_of_lt (omega (arith, g.met.F.Field.prime.least))) c.as_ref.ensures
