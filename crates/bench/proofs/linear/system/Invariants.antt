use Rattle.std.proofs.Common.{◌≡◌, ◌+◌, All, length}
use Rattle.ffc_echelon.specs.Vectors.{IsBelow}
use Rattle.bench.proofs.linear.system.Given as goal

abbrev pub invariant-loop : goal.invariant-loop
invariant-loop g l = All (IsBelow (l.size + 1)) l.forms.items × (length l.forms.items ≡ l.counter)
