use Rattle.std.proofs.Common.{◌≡◌, drop}
use Rattle.std.specs.List.{list_all}
use Rattle.ffc_rules.specs.Entries.{limits, is_within}
use Rattle.ffc_check.proofs.lemmas.are_within.Given as goal

abbrev pub invariant-loop-literal : goal.invariant-loop-literal
invariant-loop-literal l = list_all (λ x. is_within limits l.table x.1) (drop l.literal-index l.literals) ≡ list_all (λ x. is_within limits l.table x.1) l.literals
