use Rattle.std.proofs.Common.{◌≤◌, ℕ, All, take}
use Rattle.ffc_combination.proofs.choices.greatest.Given as goal

abbrev pub invariant-loop-number : goal.invariant-loop-number
invariant-loop-number l = record {
  bound : All (λ n. n ≤ l.greatest) (take l.number-index l.numbers);
  least : (m : ℕ) → All (λ n. n ≤ m) l.numbers → l.greatest ≤ m;
}
