use Rattle.std.proofs.Common.{arith}
use Rattle.ffc_mono.specs.declared.mono.TheConstants.{DEGREE_LIMIT}
use Rattle.ffc_poly.specs.declared.poly.TheConstants.{TERM_LIMIT}
use Rattle.ffc_poly.proofs.Coefficients.{PassesTerms-long, PassesTerms-short}
use Rattle.ffc_poly.proofs.poly.Poly.within.Goals as goal

pub returns-then-len-gt-TERM_LIMIT-clause-over : goal.returns-then-len-gt-TERM_LIMIT-clause-over
returns-then-len-gt-TERM_LIMIT-clause-over g c =
    λ _ all same. PassesTerms-long g.F.Field.ORDER g.O.MonoOrder.cmp g.met.O.MonoOrder.laws DEGREE_LIMIT TERM_LIMIT c.args.terms all c.requires same
    (omega (arith, c.len.ensures, c.if-len-gt-TERM_LIMIT.true))

pub returns-clause-fits : goal.returns-clause-fits
returns-clause-fits g c =
    λ all same. PassesTerms-short g.F.Field.ORDER g.O.MonoOrder.cmp g.met.O.MonoOrder.laws DEGREE_LIMIT TERM_LIMIT c.args.terms all same
    (omega (arith, c.len.ensures, c.if-len-gt-TERM_LIMIT.false))
