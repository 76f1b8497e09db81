use Rattle.std.proofs.Common.{◌≡◌, ◌<◌, length, None, sym, ◌∙◌, subst, arith}
use Rattle.std.proofs.lemmas.List.{get_or_default}
use Rattle.ffc_ring.specs.Polynomial.{SamePolynomial, scaled, difference}
use Rattle.ffc_dense.specs.Columns.{terms_of}
use Rattle.ffc_dense.proofs.table.subtract_kept.Goals as goal

pub returns-in-Some-clause-difference : goal.returns-in-Some-clause-difference
returns-in-Some-clause-difference g c done =
    let value = g.F.Field.value in
    let p = g.F.Field.ORDER in
    let kept = c.args.kept.now in
    let inside : c.args.slot < length kept = omega (arith, c.if-slot-kept.false) in (
      c.in-Some.multiple,
      get_or_default kept c.args.slot None c.index-kept-slot.result inside ∙ sym c.index-kept-slot.is ∙ c.in-Some.is,
      subst (λ ts. SamePolynomial p c.subtract.new.self.1 (difference p c.args.dense.now.1 (scaled (value c.args.c) (terms_of value c.args.dense.now.0 ts)))) c.as_slice.ensures.value (c.subtract.ensures.difference done),
    )
