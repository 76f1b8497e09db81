use Rattle.std.proofs.Common.{◌≡◌, drop}
use Rattle.std.specs.List.{list_all}
use Rattle.ffc_rules.specs.Entries.{is_equality_at}
use Rattle.ffc_check.proofs.lemmas.are_equalities.Given as goal

abbrev pub invariant-loop-literal : goal.invariant-loop-literal
invariant-loop-literal l = list_all (λ x. is_equality_at l.table l.order x.1) (drop l.literal-index l.literals) ≡ list_all (λ x. is_equality_at l.table l.order x.1) l.literals
