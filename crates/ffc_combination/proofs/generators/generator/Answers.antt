use Rattle.std.proofs.Common.{[], ◌∷◌, ◌∙◌}
use Rattle.ffc_encode.proofs.LimitLemmas.{terms_few}
use Rattle.ffc_ring.specs.Polynomial.{Terms, SamePolynomial, difference, term_product}
use Rattle.ffc_term.specs.Measuring.{degree_at}
use Rattle.ffc_term.specs.Nodes.{node_at}
use Rattle.ffc_trees.specs.FirstLines.{difference_of, first_line}
use Rattle.ffc_trees.specs.NodePolynomials.{constant}
use Rattle.ffc_trees.specs.Normal.{IsNormal}
use Rattle.ffc_combination.specs.Generators.{IsGenerator}
use Rattle.ffc_combination.proofs.LineLemmas.{plain_line, inverse_line}
use Rattle.ffc_combination.proofs.SideLemmas.{inverse_low, difference_low, both_ok}
use Rattle.ffc_combination.proofs.generators.generator.Goals as goal

pub with_inverse-requires-clause-low : goal.with_inverse-requires-clause-low
with_inverse-requires-clause-low g c =
    let p = g.F.Field.ORDER in
    let ns = c.args.table.now in
    let id = c.args.literal.1 in
    inverse_low p c.args.number (degree_at ns id) c.in_ok-poly.poly (difference_of p ns (node_at ns id)) c.in_ok-poly.ensures.same (difference_low p ns id c.requires.table c.requires.usable.equality) c.requires.usable.low

pub with_inverse-requires-clause-short : goal.with_inverse-requires-clause-short
with_inverse-requires-clause-short g c =
    let p = g.F.Field.ORDER in
    let ns = c.args.table.now in
    let w = c.args.number in
    terms_few p 131072 (difference p (term_product 1 ((w, 1) ∷ []) c.in_ok-poly.poly) (constant 1)) (first_line p ns w c.args.literal)
    (inverse_line p ns w c.args.literal c.in_ok-poly.poly c.requires.table c.requires.usable.equality c.if-literal.true c.in_ok-poly.ensures.same) c.requires.short

pub returns-then-literal-clause-line : goal.returns-then-literal-clause-line
returns-then-literal-clause-line g c =
    let p = g.F.Field.ORDER in
    let ns = c.args.table.now in
    let w = c.args.number in
    let poly : Terms = c.in_ok-poly.poly in
    both_ok c.with_inverse.result (λ r. SamePolynomial p r (difference p (term_product 1 ((w, 1) ∷ []) poly) (constant 1))) (IsNormal p) (IsGenerator p (first_line p ns w c.args.literal))
    (λ r same normal. record {
      same = λ m. same m ∙ inverse_line p ns w c.args.literal poly c.requires.table c.requires.usable.equality c.if-literal.true c.in_ok-poly.ensures.same m;
      normal = normal;
    })
    c.with_inverse.ensures.same c.with_inverse.ensures.normal

pub returns-else-literal-clause-line : goal.returns-else-literal-clause-line
returns-else-literal-clause-line g c = record {
  same = plain_line g.F.Field.ORDER c.args.table.now c.args.number c.args.literal c.in_ok-poly.poly c.if-literal.false c.in_ok-poly.ensures.same;
  normal = c.in_ok-poly.ensures.normal;
}
