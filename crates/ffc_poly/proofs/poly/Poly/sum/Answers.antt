use Rattle.ffc_poly.specs.declared.poly.TheConstants.{TERM_LIMIT}
use Rattle.ffc_poly.specs.Ordered.{sum_of}
use Rattle.ffc_poly.proofs.Coefficients.{PassesTerms-length}
use Rattle.ffc_poly.proofs.poly.Poly.sum.Goals as goal

pub returns-clause-short : goal.returns-clause-short
returns-clause-short g c =
    let p = g.F.Field.ORDER in
    let ts = sum_of c.args.parts.now in
    λ short refused. PassesTerms-length p TERM_LIMIT ts short (c.within.ensures.over refused ts c.in_ok-merged.ensures.same)
