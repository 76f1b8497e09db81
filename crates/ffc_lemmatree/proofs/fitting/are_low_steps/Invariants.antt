use Rattle.std.proofs.Common.{All, take}
use Rattle.ffc_lemmatree.specs.Written.{IsLowStep}
use Rattle.ffc_lemmatree.proofs.fitting.are_low_steps.Given as goal

abbrev pub invariant-loop-step : goal.invariant-loop-step
invariant-loop-step g l = All IsLowStep (take l.step-index l.steps)
