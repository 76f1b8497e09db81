use Rattle.std.proofs.Common.{◌∙◌, subst}
use Rattle.ffc_check.specs.Judged.{judged_check}
use Rattle.ffc_refutation.specs.Combinations.{IsRefuted}
use Rattle.ffc_combination.specs.Attempts.{IsAttempt, IsSumFor}
use Rattle.ffc_combination.proofs.SearchLemmas.{refuted}
use Rattle.ffc_combination.proofs.search.tried.Goals as goal

pub returns-in_ok-lines-in-Found-clause-answer : goal.returns-in_ok-lines-in-Found-clause-answer
returns-in_ok-lines-in-Found-clause-answer g c =
    let p = g.F.Field.ORDER in
    let check = judged_check c.args.check.now in
    let x = c.args.choice.now in
    let sum : IsSumFor p check.nodes x c.in-Found.summands.items = subst (IsAttempt p check.nodes c.args.degree x c.args.meter.now) c.in-Found.is c.in_ok-summands.ensures.answer in
    let is : IsRefuted check c.args.reasons.now c.ORDER.result c.in_ok-literals-in-Found.literals.items c.in-Found.summands.items =
    refuted check p c.args.reasons.now x c.in-Found.summands.items c.requires.choice.denied sum c.ORDER.result c.in_ok-literals-in-Found.literals.items c.ORDER.ensures (c.in_ok-literals-in-Found.ensures.items ∙ c.as_slice.ensures.value) in
    (c.in_ok-lines-in-Found.ensures.readable check is, c.in_ok-lines-in-Found.ensures.right check is)
