use Rattle.std.proofs.Common.{◌≡◌, ◌<◌, length, None, slice_get, refl, sym, ap, ◌∙◌, arith}
use Rattle.std.proofs.lemmas.List.{get_or_default}
use Rattle.ffc_dense.proofs.table.held_at.Goals as goal

pub returns : goal.returns
returns g c =
    let kept = c.args.kept.now in
    let inside : c.args.slot < length kept = omega (arith, c.if-slot-kept.false) in (
      c.in-Some.multiple,
      get_or_default kept c.args.slot None c.index-kept-slot.result inside ∙ sym c.index-kept-slot.is ∙ c.in-Some.is,
      refl,
      refl,
      (c.in-Some-first.lead.now, c.in-Some-first.ensures.value ∙ ap (λ ts. slice_get ts 0) c.deref.ensures.value, omega (arith, c.if-lead-slot.false)),
    )
