use Rattle.std.proofs.Common.{◌≡◌, drop}
use Rattle.ffc_check.specs.Assigning.{with_values}
use Rattle.ffc_combination.proofs.values.give.Given as goal

abbrev pub invariant-loop-pair : goal.invariant-loop-pair
invariant-loop-pair l = with_values l.table l.values (drop l.pair-index l.pairs) ≡ with_values l.table l.initial.values l.pairs
