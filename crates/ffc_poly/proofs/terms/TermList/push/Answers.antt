use Rattle.std.proofs.Common.{◌∷◌, ◌++◌, [], ap, ap₂, ◌∙◌}
use Rattle.ffc_poly.specs.Ordered.{zipped}
use Rattle.ffc_poly.proofs.TermLemmas.{zipped-append}
use Rattle.ffc_poly.proofs.terms.TermList.push.Goals as goal

pub returns : goal.returns
returns g c =
    let value = g.F.Field.value in
    let cs = c.self.inside.coefficients.items in
    let ms = c.self.inside.monomials in
    let m = c.args.m.powers.now in
    ap₂ (zipped value) (c.in_ok-push-2.ensures.items ∙ ap (λ k. k ++ c.args.c ∷ []) c.in_ok-reserve.ensures.items) c.in_ok-push.ensures.pushed
    ∙ zipped-append value cs (c.args.c ∷ []) ms (m ∷ []) c.self.invariant ∙ ap (λ k. k ++ (value c.args.c, m) ∷ []) c.self.view_is
