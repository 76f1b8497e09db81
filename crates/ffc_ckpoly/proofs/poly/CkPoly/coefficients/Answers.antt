use Rattle.std.proofs.Common.{◌≡◌, length, map, ap, ◌∙◌, arith}
use Rattle.std.proofs.lemmas.List.{length-map}
use Rattle.ffc_trees.specs.TreeLines.{coefficients_of}
use Rattle.ffc_ckpoly.specs.Sorted.{residues}
use Rattle.ffc_ckpoly.proofs.UnivariateLemmas.{length-coefficients}
use Rattle.ffc_ckpoly.proofs.poly.CkPoly.coefficients.Goals as goal

pub returns-clause-short : goal.returns-clause-short
returns-clause-short g c =
    let value = g.F.Field.value in
    let row : map value c.in_ok-coefs.coefs.items ≡ coefficients_of c.args.self.now =
    c.in_ok-coefs.ensures ∙ ap coefficients_of (ap (residues value) c.as_slice-2.ensures.value ∙ c.in_ok-terms.ensures.terms) in
    omega (arith, length-map c.in_ok-coefs.coefs.items value, ap length row, length-coefficients c.args.self.now)
