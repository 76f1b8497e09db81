use Rattle.std.proofs.Common.{sym, ◌∙◌}
use Rattle.std.proofs.lemmas.Result.{on_ok_weaker}
use Rattle.ffc_ring.specs.Polynomial.{SamePolynomial, term_product, difference}
use Rattle.ffc_poly.specs.declared.poly.TheConstants.{TERM_LIMIT}
use Rattle.ffc_poly.proofs.Clauses.{same_differences}
use Rattle.ffc_poly.proofs.Coefficients.{PassesTerms-same}
use Rattle.ffc_poly.proofs.accumulator.Accumulator.subtract_multiple.Goals as goal

pub returns-clause-difference : goal.returns-clause-difference
returns-clause-difference g c =
    let p = g.F.Field.ORDER in
    let a = c.args.self.now in
    let more = c.in_ok-multiple.multiple in
    let multiple = term_product (g.F.Field.value c.args.c) c.args.m.powers.now c.args.q.now in
    let both : SamePolynomial p (difference p a more) (difference p a multiple) = same_differences p a more multiple c.in_ok-multiple.ensures.product in
    on_ok_weaker c.subtract.result (λ h m. h m ∙ both m) c.subtract.ensures.difference

pub returns-clause-fits : goal.returns-clause-fits
returns-clause-fits g c =
    let p = g.F.Field.ORDER in
    let a = c.args.self.now in
    let more = c.in_ok-multiple.multiple in
    let multiple = term_product (g.F.Field.value c.args.c) c.args.m.powers.now c.args.q.now in
    let both : SamePolynomial p (difference p a more) (difference p a multiple) = same_differences p a more multiple c.in_ok-multiple.ensures.product in
    on_ok_weaker c.subtract.result (λ h passes. h (PassesTerms-same p TERM_LIMIT (difference p a multiple) (difference p a more) (λ m. sym (both m)) passes)) c.subtract.ensures.fits

pub returns-clause-terms_over : goal.returns-clause-terms_over
returns-clause-terms_over g c =
    let p = g.F.Field.ORDER in
    let a = c.args.self.now in
    let more = c.in_ok-multiple.multiple in
    let multiple = term_product (g.F.Field.value c.args.c) c.args.m.powers.now c.args.q.now in
    let both : SamePolynomial p (difference p a more) (difference p a multiple) = same_differences p a more multiple c.in_ok-multiple.ensures.product in
    λ refused. PassesTerms-same p TERM_LIMIT (difference p a more) (difference p a multiple) both (c.subtract.ensures.terms_over refused)
