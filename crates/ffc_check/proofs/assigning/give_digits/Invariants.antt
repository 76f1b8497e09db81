use Rattle.std.proofs.Common.{◌≡◌, drop}
use Rattle.ffc_rules.specs.Assignments.{digits}
use Rattle.ffc_check.specs.Assigning.{with_values}
use Rattle.ffc_check.proofs.assigning.give_digits.Given as goal

abbrev pub invariant-loop-constant : goal.invariant-loop-constant
invariant-loop-constant l =
    with_values l.table l.values (digits l.table (drop l.constant-index l.constants) l.left) ≡ with_values l.table l.initial.values (digits l.table l.constants l.fn.number)
