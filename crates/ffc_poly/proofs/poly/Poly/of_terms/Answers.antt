use Rattle.std.proofs.Common.{◌≤◌, length, refl, inl, inr}
use Rattle.std.proofs.lemmas.Bool.{cases_lt}
use Rattle.ffc_mono.specs.declared.mono.TheConstants.{DEGREE_LIMIT}
use Rattle.ffc_poly.specs.declared.poly.TheConstants.{TERM_LIMIT}
use Rattle.ffc_poly.proofs.Coefficients.{PassesTerms-long}
use Rattle.ffc_poly.proofs.poly.Poly.of_terms.Goals as goal

pub invariant_of-result : goal.invariant_of-result
invariant_of-result g c =
    let short : length c.args.terms ≤ TERM_LIMIT = elim (cases_lt TERM_LIMIT (length c.args.terms)) [
      | inl long ↦
          absurd (c.requires.fits (PassesTerms-long g.F.Field.ORDER g.O.MonoOrder.cmp g.met.O.MonoOrder.laws DEGREE_LIMIT TERM_LIMIT c.args.terms c.args.terms c.requires.ordered (λ m. refl) long))
      | inr short ↦ short
    ] in
    (c.requires.ordered, short)
