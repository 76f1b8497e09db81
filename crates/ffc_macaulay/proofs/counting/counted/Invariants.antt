use Rattle.std.proofs.Common.{◌≡◌, ◌≤◌, take}
use Rattle.ffc_bounds.specs.Monomials.{rows}
use Rattle.ffc_macaulay.proofs.counting.counted.Given as goal

abbrev pub invariant-loop-each : goal.invariant-loop-each
invariant-loop-each l = record {
  rows_are : l.rows ≡ rows l.degree l.variables (take l.each-index l.degrees);
  small : l.rows ≤ 4096;
}
