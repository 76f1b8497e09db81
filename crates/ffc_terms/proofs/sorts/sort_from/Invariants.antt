use Rattle.std.proofs.Common.{◌≡◌, drop}
use Rattle.ffc_terms.specs.SortSteps as steps
use Rattle.ffc_terms.proofs.sorts.sort_from.Given as goal

abbrev pub invariant-loop-i : goal.invariant-loop-i
invariant-loop-i l = steps.run l.sorts l.stage (drop l.i l.words) ≡ steps.at l.sorts l.words l.at
