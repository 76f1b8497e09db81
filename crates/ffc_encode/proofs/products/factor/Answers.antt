use Rattle.std.proofs.Common.{◌≡◌, ◌%◌, None, IfNone, sym, ap, ◌∙◌, subst}
use Rattle.ffc_ring.specs.Polynomial.{SamePolynomial, written, scaled}
use Rattle.ffc_trees.specs.NodePolynomials.{poly_at}
use Rattle.ffc_encode.specs.Opening.{IsLeafAt}
use Rattle.ffc_encode.proofs.PartLemmas.{at_some}
use Rattle.ffc_encode.proofs.ExpandLemmas.{once}
use Rattle.ffc_encode.proofs.OpeningLemmas.{not_ready}
use Rattle.ffc_encode.proofs.products.factor.Goals as goal

pub returns : goal.returns
returns g c =
    let p = g.F.Field.ORDER in
    let f = poly_at c.args.table.now c.args.id in
    let w = g.F.Field.value c.of.result in
    once p w c.in-Some-2.part f c.of.ensures (at_some (λ r. SamePolynomial p r (scaled w f)) c.in_ok-part.field-0 c.in-Some-2.part c.in-Some-2.is c.in_ok-part.ensures.same)
