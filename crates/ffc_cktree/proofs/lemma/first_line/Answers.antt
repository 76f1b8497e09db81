use Rattle.std.proofs.Common.{List, subst, arith}
use Rattle.std.proofs.lemmas.Bool.{not-true}
use Rattle.ffc_ring.specs.Polynomial.{SamePolynomial, product, difference}
use Rattle.ffc_term.specs.declared.node.Node.{Node}
use Rattle.ffc_term.specs.Nodes.{IsNodeAt}
use Rattle.ffc_term.specs.Tables.{IsTable}
use Rattle.ffc_trees.specs.Normal.{IsNormal}
use Rattle.ffc_trees.specs.NodePolynomials.{variable, constant}
use Rattle.ffc_trees.specs.FirstLines.{first_line}
use Rattle.ffc_trees.specs.Same.{IsSameLine}
use Rattle.ffc_cktree.proofs.SumLemmas.{if_both}
use Rattle.ffc_cktree.proofs.FirstLemmas.{sides_of, negative_line, positive_line, not-false}
use Rattle.ffc_cktree.proofs.lemma.first_line.Goals as goal

pub difference-requires-clause-left : goal.difference-requires-clause-left
difference-requires-clause-left g c =
    let nodes = c.args.polys.now in
    let at = subst (λ (ns : List Node). IsNodeAt ns c.args.lit.1 c.node.result.now) c.table-table.ensures c.node.ensures.at in
    let table = subst IsTable c.table-table.ensures c.node.ensures.valid in
    (sides_of nodes g.F.Field.ORDER c.args.lit c.node.result.now c.in-Eq.s c.in-Eq.t table at c.in-Eq.is c.requires.equality c.requires.low).0

pub difference-requires-clause-right : goal.difference-requires-clause-right
difference-requires-clause-right g c =
    let nodes = c.args.polys.now in
    let at = subst (λ (ns : List Node). IsNodeAt ns c.args.lit.1 c.node.result.now) c.table-table.ensures c.node.ensures.at in
    let table = subst IsTable c.table-table.ensures c.node.ensures.valid in
    (sides_of nodes g.F.Field.ORDER c.args.lit c.node.result.now c.in-Eq.s c.in-Eq.t table at c.in-Eq.is c.requires.equality c.requires.low).1

pub returns-then-not-lit-clause-same : goal.returns-then-not-lit-clause-same
returns-then-not-lit-clause-same g c =
    let nodes = c.args.polys.now in
    let at = subst (IsNodeAt nodes c.args.lit.1) c.in-Eq.is (subst (λ (ns : List Node). IsNodeAt ns c.args.lit.1 c.node.result.now) c.table-table.ensures c.node.ensures.at) in
    negative_line nodes g.F.Field.ORDER c.args.w c.args.lit c.in-Eq.s c.in-Eq.t c.in_ok-difference.difference (omega (arith, g.met.F.Field.prime.least)) (not-true c.args.lit.0 c.if-not-lit.true) at c.in_ok-difference.ensures.normal c.in_ok-difference.ensures.difference

pub returns-clause-same : goal.returns-clause-same
returns-clause-same g c =
    let p = g.F.Field.ORDER in
    let nodes = c.args.polys.now in
    let f = c.in_ok-difference.difference in
    let at = subst (IsNodeAt nodes c.args.lit.1) c.in-Eq.is (subst (λ (ns : List Node). IsNodeAt ns c.args.lit.1 c.node.result.now) c.table-table.ensures c.node.ensures.at) in
    if_both (λ r. SamePolynomial p r (difference p (product f (variable c.args.w)) (constant 1))) (IsNormal p) (λ r. IsSameLine p r (first_line p nodes c.args.w c.args.lit)) c.inverted.result
    (λ r same n. positive_line nodes p c.args.w c.args.lit c.in-Eq.s c.in-Eq.t f r (omega (arith, g.met.F.Field.prime.least)) (not-false c.args.lit.0 c.if-not-lit.false) at c.in_ok-difference.ensures.difference n same) c.inverted.ensures.same c.inverted.ensures.normal
