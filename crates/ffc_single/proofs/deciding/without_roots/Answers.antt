use Rattle.std.proofs.Common.{[], refl}
use Rattle.ffc_check.specs.Judged.{judged_check}
use Rattle.ffc_lemmatree.specs.declared.endings.Ending.TheVariants as ending
use Rattle.ffc_single.proofs.EndingLemmas.{refuted_by_constant, refuted_as}
use Rattle.ffc_single.proofs.deciding.without_roots.Goals as goal

pub returns : goal.returns
returns g c = λ units.
    (let check = judged_check c.args.check.now in
    let p = g.F.Field.ORDER in
    let conjunction = c.args.conjunction.now in
    let divisor = c.args.divisor.now in
    let nodes = c.len-nodes.result in
    let refuted = refuted_as {F = g.row.F.Denot} check p conjunction.reasons.items c.as_slice-reasons.result.now nodes c.args.variable conjunction.equations.items c.as_slice-equations.result.now [] [] divisor.start divisor.steps.items c.as_slice-steps.result.now ending.Constant
    c.as_slice-reasons.ensures.value c.as_slice-equations.ensures.value refl c.as_slice-steps.ensures.value
    (refuted_by_constant check p c.args.variable conjunction divisor c.requires.divisor_is nodes [] c.len-nodes.ensures.count refl c.requires.constant) in
    (c.in_ok-lines.ensures.readable check refuted, c.in_ok-lines.ensures.right check refuted))
