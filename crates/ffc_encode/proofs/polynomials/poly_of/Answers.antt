use Rattle.std.proofs.Common.{rules, arith}
use Rattle.std.proofs.lemmas.Grind.{common_steps}
use Rattle.ffc_ring.specs.Polynomial.{SamePolynomial}
use Rattle.ffc_trees.specs.NodePolynomials.{poly_at}
use Rattle.ffc_encode.proofs.ExpandLemmas.{values_of_node}
use Rattle.ffc_encode.proofs.polynomials.poly_of.Goals as goal

pub returns-clause-value : goal.returns-clause-value
returns-clause-value g c =
    let p = g.F.Field.ORDER in
    let nodes = c.args.table.now in
    let same : SamePolynomial p c.in-Some.found (poly_at nodes c.args.id) = first_of (search rules, grind (arith, common_steps)) in
    values_of_node nodes p c.args.id c.in-Some.found c.len-nodes.ensures.valid c.requires same
