use Rattle.std.proofs.Common.{◌≢◌, take, All}
use Rattle.ffc_uni.specs.Univariate.{value_of}
use Rattle.ffc_single.proofs.trials.first_zero.Given as goal

abbrev pub invariant-loop-place : goal.invariant-loop-place
invariant-loop-place g l = All (λ f. value_of g.F.Field.ORDER (g.F.Field.value l.x) f ≢ 0) (take l.place l.forms)
