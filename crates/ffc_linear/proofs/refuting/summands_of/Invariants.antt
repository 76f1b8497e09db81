use Rattle.std.proofs.Common.{◌≡◌, ◌≤◌, length, map, take}
use Rattle.ffc_linear.specs.Refuting.{summands_from}
use Rattle.ffc_linear.proofs.refuting.summands_of.Given as goal

abbrev pub invariant-loop-coefficient : goal.invariant-loop-coefficient
invariant-loop-coefficient g l = record {
  few : length l.summands.items ≤ l.coefficient-index;
  are : l.summands.items ≡ summands_from 0 l.monomial (map g.F.Field.value (take l.coefficient-index l.coefficients));
}
