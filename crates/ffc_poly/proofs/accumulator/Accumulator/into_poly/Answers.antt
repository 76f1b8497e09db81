use Rattle.std.proofs.Common.{◌%◌, ap, ◌∙◌}
use Rattle.ffc_ring.specs.Polynomial.{written}
use Rattle.ffc_poly.specs.declared.poly.TheConstants.{TERM_LIMIT}
use Rattle.ffc_poly.specs.Ordered.{sum_of}
use Rattle.ffc_poly.proofs.Coefficients.{PassesTerms-same}
use Rattle.ffc_poly.proofs.accumulator.Accumulator.into_poly.Goals as goal

pub of_terms-requires-clause-fits : goal.of_terms-requires-clause-fits
of_terms-requires-clause-fits g c =
    let p = g.F.Field.ORDER in
    λ passes.
    c.self.invariant.1
    (PassesTerms-same p TERM_LIMIT c.in_ok-terms.terms (sum_of c.self.inside.tails.items)
    (λ m. c.in_ok-terms.ensures.same m ∙ ap (λ t. written (sum_of t) m % p) c.as_slice.ensures.value) passes)
