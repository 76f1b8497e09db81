use Rattle.std.proofs.Common.{◌≡◌, map, take, drop}
use Rattle.ffc_trials.specs.Counting.{number_given}
use Rattle.ffc_trials.proofs.counting.list_numbers.Given as goal

abbrev pub invariant-loop-pair : goal.invariant-loop-pair
invariant-loop-pair l = record {
  done : take l.pair-index l.pairs ≡ map (λ p. (p.0, number_given l.table l.values p.0)) (take l.pair-index l.initial.pairs);
  rest : drop l.pair-index l.pairs ≡ drop l.pair-index l.initial.pairs;
}
