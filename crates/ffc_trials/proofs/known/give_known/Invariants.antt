use Rattle.std.proofs.Common.{◌≡◌, drop}
use Rattle.ffc_check.specs.Assigning.{with_values}
use Rattle.ffc_trials.proofs.known.give_known.Given as goal

abbrev pub invariant-loop-pair : goal.invariant-loop-pair
invariant-loop-pair l = with_values l.table l.values (drop l.pair-index l.known) ≡ with_values l.table l.initial.values l.known
