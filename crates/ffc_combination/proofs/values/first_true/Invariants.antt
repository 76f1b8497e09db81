use Rattle.std.proofs.Common.{◌≡◌, false, take, All}
use Rattle.ffc_combination.specs.Values.{truth_by}
use Rattle.ffc_combination.proofs.values.first_true.Given as goal

abbrev pub invariant-loop-place : goal.invariant-loop-place
invariant-loop-place l = All (λ x. truth_by l.values x ≡ false) (take l.place l.literals)
