use Rattle.std.proofs.Common.{drop}
use Rattle.ffc_trials.proofs.ReadableLemmas.{NumbersFrom}
use Rattle.ffc_trials.proofs.readable.increase.Given as goal

abbrev pub invariant-loop-number : goal.invariant-loop-number
invariant-loop-number l = NumbersFrom l.least (drop l.number-index l.numbers) → NumbersFrom 0 l.numbers
