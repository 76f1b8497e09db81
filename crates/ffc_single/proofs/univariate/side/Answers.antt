use Rattle.std.proofs.Common.{subst}
use Rattle.std.specs.Option.{IfNone}
use Rattle.ffc_mono.specs.OrderLaws.{graded_reverse_lex_laws}
use Rattle.ffc_ring.specs.Polynomial.{SamePolynomial}
use Rattle.ffc_roots.specs.Sparse.{IsInOne}
use Rattle.ffc_trees.specs.NodePolynomials.{poly_at}
use Rattle.ffc_single.proofs.SideLemmas.{side_in_one}
use Rattle.ffc_single.proofs.univariate.side.Goals as goal

pub unreachable-requires-in-None : goal.unreachable-requires-in-None
unreachable-requires-in-None g c =
    let f = c.in-Ok.found in
    let other : IsInOne c.args.variable f → ⊥ = subst (λ o. IfNone o (IsInOne c.args.variable f → ⊥)) c.in-None.is c.in_ok-form.ensures.none in
    other (side_in_one g.F.Field.ORDER _ 1024 c.args.polynomials.now c.args.variable c.args.id f graded_reverse_lex_laws c.requires c.len-terms.ensures.ordered
    c.in-Ok.ensures.same)
