use Rattle.std.proofs.Common.{arith}
use Rattle.std.proofs.lemmas.Result.{on_ok_weaker}
use Rattle.ffc_poly.specs.declared.poly.TheConstants.{TERM_LIMIT}
use Rattle.ffc_poly.specs.Ordered.{residues}
use Rattle.ffc_poly.proofs.Coefficients.{PassesTerms-length}
use Rattle.ffc_poly.proofs.Lists.{length-residues}
use Rattle.ffc_poly.proofs.poly.Poly.from_terms.Goals as goal

pub returns-clause-short : goal.returns-clause-short
returns-clause-short g c =
    let value = g.F.Field.value in
    let p = g.F.Field.ORDER in
    let ts = residues value c.args.terms.now in
    λ short refused.
    PassesTerms-length p TERM_LIMIT ts (omega (arith, length-residues value c.args.terms.now, short))
    (c.within.ensures.over refused ts c.in_ok-sum_of.ensures.same)

pub returns-clause-fits : goal.returns-clause-fits
returns-clause-fits g c =
    let ts = residues g.F.Field.value c.args.terms.now in
    on_ok_weaker c.within.result (λ h. h ts c.in_ok-sum_of.ensures.same) c.within.ensures.fits
