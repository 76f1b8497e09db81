use Rattle.std.proofs.Common.{refl, subst, All}
use Rattle.std.proofs.lemmas.List.{take_all}
use Rattle.ffc_lemmatree.specs.Written.{IsLowStep}
use Rattle.ffc_lemmatree.proofs.Writing.{all_with}
use Rattle.ffc_lemmatree.proofs.fitting.are_low_steps.Goals as goal

pub loop-step-preserved : goal.loop-step-preserved
loop-step-preserved g c =
    all_with IsLowStep c.args.steps.now c.loop-step.step-index c.step-item.result c.loop-step-test.true c.step-item.is c.loop-step.invariant
    (c.if-not-is_low.ensures.0 refl, c.if-not-is_low-2.ensures.0 refl)

pub returns : goal.returns
returns g c = (λ _. subst (All IsLowStep) (take_all c.loop-step.step-index c.args.steps.now c.loop-step-test.false) c.loop-step.invariant, λ _. refl)
