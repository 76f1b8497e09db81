use Rattle.ffc_mono.specs.declared.mono.TheConstants.{DEGREE_LIMIT}
use Rattle.ffc_poly.proofs.Degrees.{product_passes}
use Rattle.ffc_poly.proofs.products.product_passes_degree.Goals as goal

pub returns : goal.returns
returns g c =
    let first = c.greatest_degree.ensures in
    let second = c.greatest_degree-2.ensures in
    let is =
    product_passes g.F.Field.ORDER g.O.MonoOrder.cmp g.met.O.MonoOrder.laws DEGREE_LIMIT c.greatest_degree.result c.greatest_degree-2.result c.args.a.now c.args.b.now
    c.requires.a_is c.requires.b_is first.limit second.limit first.within first.reached second.within second.reached in
    record { passes = is.0; fits = is.1 }
