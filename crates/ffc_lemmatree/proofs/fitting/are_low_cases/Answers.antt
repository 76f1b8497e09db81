use Rattle.std.proofs.Common.{refl, subst, All}
use Rattle.std.proofs.lemmas.List.{take_all}
use Rattle.ffc_lemmatree.specs.Written.{IsLowCase}
use Rattle.ffc_lemmatree.proofs.Writing.{all_with}
use Rattle.ffc_lemmatree.proofs.fitting.are_low_cases.Goals as goal

pub loop-case-preserved : goal.loop-case-preserved
loop-case-preserved g c =
    all_with (IsLowCase c.args.count) c.args.cases.now c.loop-case.case-index c.case-item.result c.loop-case-test.true c.case-item.is c.loop-case.invariant
    (c.if-case-count.false, c.if-not-is_low.ensures.0 refl)

pub returns : goal.returns
returns g c = (λ _. subst (All (IsLowCase c.args.count)) (take_all c.loop-case.case-index c.args.cases.now c.loop-case-test.false) c.loop-case.invariant, λ _. refl)
