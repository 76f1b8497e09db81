use Rattle.std.proofs.Common.{take, take_all, get_or, sym, ap, ap₂, ◌∙◌}
use Rattle.std.proofs.lemmas.List.{take_more}
use Rattle.std.specs.Int.RustNames.{bit_or}
use Rattle.ffc_mono.specs.Masks.{mask_of}
use Rattle.ffc_mono.proofs.MaskLemmas.{mask-push}
use Rattle.ffc_mono.proofs.powers.mask_of.Goals as goal

pub loop-power-preserved : goal.loop-power-preserved
loop-power-preserved c =
    let step = take_more c.args.powers.now c.loop-power.power-index (0, 0) c.loop-power-test.true in
    let item = get_or c.args.powers.now c.loop-power.power-index (0, 0) in
    ap₂ bit_or c.loop-power.invariant c.bit_of-mask.ensures ∙ sym (ap mask_of step ∙ mask-push (take c.loop-power.power-index c.args.powers.now) item)

pub returns : goal.returns
returns c = c.loop-power.invariant ∙ ap mask_of (take_all c.loop-power.power-index c.args.powers.now c.loop-power-test.false)
