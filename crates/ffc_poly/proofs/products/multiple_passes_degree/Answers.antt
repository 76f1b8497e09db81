use Rattle.ffc_mono.specs.declared.mono.TheConstants.{DEGREE_LIMIT}
use Rattle.ffc_poly.proofs.Degrees.{multiple_passes}
use Rattle.ffc_poly.proofs.products.multiple_passes_degree.Goals as goal

pub returns : goal.returns
returns g c =
    let greatest = c.greatest_degree.ensures in
    let is =
    multiple_passes g.F.Field.ORDER g.O.MonoOrder.cmp g.met.O.MonoOrder.laws DEGREE_LIMIT (g.F.Field.value c.args.c) c.args.m.powers.now c.degree.result c.greatest_degree.result c.args.terms.now
    c.requires.c_is (g.met.F.Field.below c.args.c) c.requires.terms_are c.degree.ensures.value c.degree.ensures.fits greatest.within greatest.reached in
    record { passes = is.0; fits = is.1 }
