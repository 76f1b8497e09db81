use Rattle.std.proofs.Common.{drop}
use Rattle.ffc_trials.proofs.ReadableLemmas.{IncreaseFrom}
use Rattle.ffc_trials.proofs.readable.variables_increase.Given as goal

abbrev pub invariant-loop-power : goal.invariant-loop-power
invariant-loop-power l = IncreaseFrom l.least (drop l.power-index l.powers) → IncreaseFrom 0 l.powers
