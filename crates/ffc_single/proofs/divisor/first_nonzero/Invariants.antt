use Rattle.std.proofs.Common.{◌≡◌, [], take, All}
use Rattle.ffc_uni.specs.Univariate.{Coefficients}
use Rattle.ffc_single.proofs.divisor.first_nonzero.Given as goal

abbrev pub invariant-loop-place : goal.invariant-loop-place
invariant-loop-place g l = All (λ (f : Coefficients). f ≡ []) (take l.place l.forms)
