use Rattle.std.proofs.Common.{◌≡◌, ◌+◌, ◌≤◌}
use Rattle.ffc_field.specs.Binomial.{choose}
use Rattle.ffc_macaulay.proofs.counting.count.Given as goal

abbrev pub invariant-loop-k : goal.invariant-loop-k
invariant-loop-k l = record {
  count_is : l.count ≡ choose (l.degree + l.k) l.k;
  small : l.count ≤ 4096;
}
