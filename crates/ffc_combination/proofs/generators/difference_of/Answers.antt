use Rattle.std.proofs.Common.{◌≤◌, List, sym, ap, ◌∙◌, subst, arith}
use Rattle.std.proofs.lemmas.Result.{IfOk-weaker}
use Rattle.ffc_ring.specs.Polynomial.{Terms, SamePolynomial, coefficient, difference}
use Rattle.ffc_term.specs.declared.node.Node.{Node}
use Rattle.ffc_term.specs.Measuring.{degree_at, length_at}
use Rattle.ffc_term.specs.Nodes.{node_at}
use Rattle.ffc_term.specs.Tables.{IsFieldAt}
use Rattle.ffc_trees.specs.FirstLines.{difference_of}
use Rattle.ffc_trees.specs.NodePolynomials.{poly_at}
use Rattle.ffc_combination.proofs.SideLemmas.{sides_are, difference_is, difference_few, same_differences}
use Rattle.ffc_combination.proofs.generators.difference_of.Goals as goal

pub side-requires-clause-field : goal.side-requires-clause-field
side-requires-clause-field g c =
    let p = g.F.Field.ORDER in
    let s = c.sides-s.result.0 in
    let sides = sides_are p c.args.table.now c.args.id s c.sides-s.result.1 c.sides-s.ensures.valid c.requires.usable.equality c.sides-s.ensures.at in
    subst (λ (ns : List Node). IsFieldAt ns p s) (sym c.requires.of_table) sides.first

pub side-requires-clause-low : goal.side-requires-clause-low
side-requires-clause-low g c =
    let p = g.F.Field.ORDER in
    let s = c.sides-s.result.0 in
    let sides = sides_are p c.args.table.now c.args.id s c.sides-s.result.1 c.sides-s.ensures.valid c.requires.usable.equality c.sides-s.ensures.at in
    subst (λ (ns : List Node). degree_at ns s ≤ 255) (sym c.requires.of_table) (omega (arith, sides.first_low, c.requires.usable.low))

pub side-requires-clause-short : goal.side-requires-clause-short
side-requires-clause-short g c =
    let p = g.F.Field.ORDER in
    let s = c.sides-s.result.0 in
    let sides = sides_are p c.args.table.now c.args.id s c.sides-s.result.1 c.sides-s.ensures.valid c.requires.usable.equality c.sides-s.ensures.at in
    subst (λ (ns : List Node). length_at ns s ≤ 65536) (sym c.requires.of_table) (omega (arith, sides.first_short, c.requires.usable.short))

pub side-requires-2-clause-field : goal.side-requires-2-clause-field
side-requires-2-clause-field g c =
    let p = g.F.Field.ORDER in
    let t = c.sides-s.result.1 in
    let sides = sides_are p c.args.table.now c.args.id c.sides-s.result.0 t c.sides-s.ensures.valid c.requires.usable.equality c.sides-s.ensures.at in
    subst (λ (ns : List Node). IsFieldAt ns p t) (sym (c.side.ensures.nodes ∙ c.requires.of_table)) sides.second

pub side-requires-2-clause-low : goal.side-requires-2-clause-low
side-requires-2-clause-low g c =
    let p = g.F.Field.ORDER in
    let t = c.sides-s.result.1 in
    let sides = sides_are p c.args.table.now c.args.id c.sides-s.result.0 t c.sides-s.ensures.valid c.requires.usable.equality c.sides-s.ensures.at in
    subst (λ (ns : List Node). degree_at ns t ≤ 255) (sym (c.side.ensures.nodes ∙ c.requires.of_table)) (omega (arith, sides.second_low, c.requires.usable.low))

pub side-requires-2-clause-short : goal.side-requires-2-clause-short
side-requires-2-clause-short g c =
    let p = g.F.Field.ORDER in
    let t = c.sides-s.result.1 in
    let sides = sides_are p c.args.table.now c.args.id c.sides-s.result.0 t c.sides-s.ensures.valid c.requires.usable.equality c.sides-s.ensures.at in
    subst (λ (ns : List Node). length_at ns t ≤ 65536) (sym (c.side.ensures.nodes ∙ c.requires.of_table)) (omega (arith, sides.second_short, c.requires.usable.short))

pub minus-requires : goal.minus-requires
minus-requires g c =
    let p = g.F.Field.ORDER in
    let ns = c.args.table.now in
    let s = c.sides-s.result.0 in
    let t = c.sides-s.result.1 in
    let left : Terms = c.in_ok-left.left in
    let right : Terms = c.in_ok-right.right in
    let sides = sides_are p ns c.args.id s t c.sides-s.ensures.valid c.requires.usable.equality c.sides-s.ensures.at in
    difference_few p ns c.args.id s t c.sides-s.ensures.valid c.sides-s.ensures.at sides left right
    (subst (λ (nodes : List Node). SamePolynomial p left (poly_at nodes s)) c.requires.of_table c.in_ok-left.ensures.same)
    (subst (λ (nodes : List Node). SamePolynomial p right (poly_at nodes t)) (c.side.ensures.nodes ∙ c.requires.of_table) c.in_ok-right.ensures.same)
    c.requires.usable.short

pub returns-clause-same : goal.returns-clause-same
returns-clause-same g c =
    let p = g.F.Field.ORDER in
    let ns = c.args.table.now in
    let s = c.sides-s.result.0 in
    let t = c.sides-s.result.1 in
    let left : Terms = c.in_ok-left.left in
    let right : Terms = c.in_ok-right.right in
    let sides = sides_are p ns c.args.id s t c.sides-s.ensures.valid c.requires.usable.equality c.sides-s.ensures.at in
    IfOk-weaker c.minus.result (λ r. SamePolynomial p r (difference p left right)) (λ r. SamePolynomial p r (difference_of p ns (node_at ns c.args.id)))
    (λ r same m.
    same m
    ∙ same_differences p left right (poly_at ns s) (poly_at ns t)
    (subst (λ (nodes : List Node). SamePolynomial p left (poly_at nodes s)) c.requires.of_table c.in_ok-left.ensures.same)
    (subst (λ (nodes : List Node). SamePolynomial p right (poly_at nodes t)) (c.side.ensures.nodes ∙ c.requires.of_table) c.in_ok-right.ensures.same) m
    ∙ ap (λ (ts : Terms). coefficient p ts m) (sym (difference_is p ns c.args.id s t c.sides-s.ensures.valid c.sides-s.ensures.at sides)))
    c.minus.ensures.same
