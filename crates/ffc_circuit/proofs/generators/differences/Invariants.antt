use Rattle.std.proofs.Common.{◌≡◌}
use Rattle.ffc_circuit.proofs.generators.differences.Given as goal

abbrev pub invariant-loop-equality : goal.invariant-loop-equality
invariant-loop-equality g l = l.polys ≡ l.table
