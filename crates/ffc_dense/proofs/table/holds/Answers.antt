use Rattle.std.proofs.Common.{◌≡◌, ◌<◌, length, None, get_or, sym, ◌∙◌, arith}
use Rattle.std.proofs.lemmas.List.{get_or_default}
use Rattle.ffc_dense.proofs.table.holds.Goals as goal

pub returns-then-multiple-line : goal.returns-then-multiple-line
returns-then-multiple-line g c same =
    let kept = c.args.kept.now in
    let inside : c.args.slot < length kept = omega (arith, c.if-slot-kept.false) in
    (c.in-Some.multiple, get_or_default kept c.args.slot None c.index-kept-slot.result inside ∙ sym c.index-kept-slot.is ∙ c.in-Some.is, c.if-multiple-line.true, c.eq.ensures.list.0 same)
