use Rattle.std.proofs.Common.{◌≡◌, false, length}
use Rattle.ffc_term.specs.Tables.{constant_count}
use Rattle.ffc_rules.specs.Assignments.{has_model_below}
use Rattle.ffc_check.proofs.cases.search.Given as goal

abbrev pub invariant-loop-number : goal.invariant-loop-number
invariant-loop-number l = record {
  values : length l.values.items ≡ constant_count l.check.table.now;
  out : length l.out ≡ length l.check.table.now;
  none : has_model_below l.check.table.now l.check.in_force.now l.number ≡ false;
}
