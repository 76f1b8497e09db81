use Rattle.std.proofs.Common.{◌∙◌, sym, subst}
use Rattle.ffc_ring.specs.Polynomial.{SamePolynomial}
use Rattle.ffc_trees.specs.NodePolynomials.{poly_at}
use Rattle.ffc_uni.specs.Univariate.{terms_in}
use Rattle.ffc_single.specs.Univariate.{IsSideIn}
use Rattle.ffc_single.proofs.SideLemmas.{sides_in, form_of_sides}
use Rattle.ffc_single.proofs.univariate.difference.Goals as goal

pub side-requires : goal.side-requires
side-requires g c =
    let sides = sides_in g.F.Field.ORDER c.args.table.now c.args.variable c.args.id c.sides-s.ensures.valid c.requires.equality c.sides-s.result.0 c.sides-s.result.1 c.sides-s.ensures.at in
    subst (λ ns. IsSideIn g.F.Field.ORDER ns c.args.variable c.sides-s.result.0) (sym c.requires.of_table) sides.first

pub side-requires-2 : goal.side-requires-2
side-requires-2 g c =
    let sides = sides_in g.F.Field.ORDER c.args.table.now c.args.variable c.args.id c.sides-s.ensures.valid c.requires.equality c.sides-s.result.0 c.sides-s.result.1 c.sides-s.ensures.at in
    subst (λ ns. IsSideIn g.F.Field.ORDER ns c.args.variable c.sides-s.result.1) (sym (c.side.ensures.nodes ∙ c.requires.of_table)) sides.second

pub returns-clause-form : goal.returns-clause-form
returns-clause-form g c =
    let p = g.F.Field.ORDER in
    let x = c.args.variable in
    let s = c.sides-s.result.0 in
    let t = c.sides-s.result.1 in
    let sides = sides_in p c.args.table.now x c.args.id c.sides-s.ensures.valid c.requires.equality s t c.sides-s.ensures.at in
    let one : SamePolynomial p (terms_in x c.in_ok-left.left) (poly_at c.args.table.now s) = subst (λ ns. SamePolynomial p (terms_in x c.in_ok-left.left) (poly_at ns s)) c.requires.of_table c.in_ok-left.ensures.same in
    let two : SamePolynomial p (terms_in x c.in_ok-right.right) (poly_at c.args.table.now t) = subst (λ ns. SamePolynomial p (terms_in x c.in_ok-right.right) (poly_at ns t)) (c.side.ensures.nodes ∙ c.requires.of_table) c.in_ok-right.ensures.same in
    form_of_sides p c.args.table.now x c.args.id s t c.in_ok-left.left c.in_ok-right.right c.in_ok-form.form c.sides-s.ensures.at sides one two c.in_ok-form.ensures.difference c.coefs-coefficients.ensures.normal
