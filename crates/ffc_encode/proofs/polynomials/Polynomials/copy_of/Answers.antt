use Rattle.std.proofs.Common.{◌≡◌, sym, subst, rules, arith}
use Rattle.std.proofs.lemmas.Grind.{common_steps}
use Rattle.ffc_ring.specs.Polynomial.{SamePolynomial}
use Rattle.ffc_term.specs.Tables.{IsTable}
use Rattle.ffc_trees.specs.NodePolynomials.{poly_at}
use Rattle.ffc_encode.proofs.ExpandLemmas.{values_of_node}
use Rattle.ffc_encode.proofs.polynomials.Polynomials.copy_of.Goals as goal

pub returns-clause-value : goal.returns-clause-value
returns-clause-value g c =
    let p = g.F.Field.ORDER in
    let nodes = c.args.self.now in
    let made = c.in_ok-clone-in-Some.field-0 in
    let same : SamePolynomial p made (poly_at nodes c.args.id) = first_of (search rules, grind (arith, common_steps)) in
    let table : IsTable nodes = first_of (search rules, grind (arith, common_steps)) in
    values_of_node nodes p c.args.id made table c.requires same
