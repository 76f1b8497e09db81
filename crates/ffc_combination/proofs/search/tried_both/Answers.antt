use Rattle.std.proofs.Common.{subst}
use Rattle.std.proofs.lemmas.Result.{IfOk-weaker}
use Rattle.ffc_check.specs.Judged.{judged_check}
use Rattle.ffc_combination.specs.Attempts.{IsExcluded}
use Rattle.ffc_combination.specs.Search.{IsOutcome, IsOutcomeOfBoth}
use Rattle.ffc_combination.proofs.SearchLemmas.{second_outcome}
use Rattle.ffc_combination.proofs.search.tried_both.Goals as goal

pub returns-in-Some-clause-answer : goal.returns-in-Some-clause-answer
returns-in-Some-clause-answer g c =
    let p = g.F.Field.ORDER in
    let check = judged_check c.args.check.now in
    let x = c.args.choices.now in
    let d = c.args.degree in
    let excluded : IsExcluded p check.nodes d x.equations = subst (IsOutcome check p d x.equations c.args.meter.now) c.in-Excluded.is c.in_ok-combined.ensures.answer in
    IfOk-weaker c.tried-in-Some.result (IsOutcome check p d c.in-Some.all c.tried.new.meter) (IsOutcomeOfBoth check p d x c.args.meter.now)
    (second_outcome check p d x c.in-Some.all c.args.meter.now c.tried.new.meter c.in-Some.is c.tried.ensures.units excluded) c.tried-in-Some.ensures.answer
