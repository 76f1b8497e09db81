use Rattle.std.proofs.Common.{◌∷◌, ◌++◌, [], ap, ap₂, ◌∙◌}
use Rattle.ffc_ring.specs.Monomial.{mono_mul}
use Rattle.ffc_poly.specs.Ordered.{zipped}
use Rattle.ffc_poly.proofs.TermLemmas.{zipped-append}
use Rattle.ffc_poly.proofs.terms.TermList.push_product.Goals as goal

pub returns : goal.returns
returns g c =
    let value = g.F.Field.value in
    let cs = c.self.inside.coefficients.items in
    let ms = c.self.inside.monomials in
    let both = mono_mul c.args.m.powers.now c.args.n.powers.now in
    ap₂ (zipped value) (c.in_ok-push.ensures.items ∙ ap (λ k. k ++ c.args.c ∷ []) c.in_ok-reserve.ensures.items) c.in_ok-push_product.ensures.pushed
    ∙ zipped-append value cs (c.args.c ∷ []) ms (both ∷ []) c.self.invariant ∙ ap (λ k. k ++ (value c.args.c, both) ∷ []) c.self.view_is
