use Rattle.std.proofs.Common.{◌≡◌, drop}
use Rattle.std.specs.List.{list_all}
use Rattle.ffc_rules.specs.Entries.{is_boolean}
use Rattle.ffc_check.proofs.walk.are_boolean.Given as goal

abbrev pub invariant-loop-literal : goal.invariant-loop-literal
invariant-loop-literal l = list_all (λ x. is_boolean l.table x.1) (drop l.literal-index l.literals) ≡ list_all (λ x. is_boolean l.table x.1) l.literals
