use Rattle.std.proofs.Common.{◌∙◌, arith}
use Rattle.ffc_trees.specs.NodePolynomials.{poly_at}
use Rattle.ffc_trees.proofs.BoundLemmas.{poly_at-bounded}
use Rattle.ffc_poly.specs.Ordered.{sum_of}
use Rattle.ffc_encode.proofs.LimitLemmas.{terms_few, only_memory}
use Rattle.ffc_encode.proofs.sums.total.Goals as goal

pub memory-requires : goal.memory-requires
memory-requires g c =
    let p = g.F.Field.ORDER in
    let nodes = c.args.table.now in
    let id = c.args.id in
    let bound = poly_at-bounded nodes p id c.len-nodes.ensures.valid c.requires.within.field in
    only_memory c.sum.result c.in-Err.stop c.in-Err.is c.sum.ensures.no_product
    (λ e. terms_few p 131072 (sum_of c.args.parts.now) (poly_at nodes id) c.requires.same (omega (arith, bound.1, c.requires.within.short)) (c.sum.ensures.terms_over e))

pub returns-in-Ok : goal.returns-in-Ok
returns-in-Ok g c m = c.in-Ok.ensures.sum m ∙ c.requires.same m
