use Rattle.std.proofs.Common.{◌++◌, ◌%◌, ap₂, ◌∙◌}
use Rattle.std.proofs.lemmas.Result.{on_ok_weaker}
use Rattle.ffc_ring.specs.Polynomial.{SamePolynomial, scaled, written}
use Rattle.ffc_poly.proofs.poly.Poly.add_scaled.Goals as goal

pub returns-clause-fits : goal.returns-clause-fits
returns-clause-fits g c =
    let p = g.F.Field.ORDER in
    let k = g.F.Field.value c.args.c in
    let same : SamePolynomial p c.in_ok-terms.terms (c.args.self.now ++ scaled k c.args.other.now) =
    λ m. c.in_ok-terms.ensures.same m ∙ ap₂ (λ x y. written (x ++ scaled k y) m % p) c.listed.ensures.value c.listed-2.ensures.value in
    on_ok_weaker c.within.result (λ h all e. h all (λ m. same m ∙ e m)) c.within.ensures.fits
