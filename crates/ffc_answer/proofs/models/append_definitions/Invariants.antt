use Rattle.std.proofs.Common.{◌≡◌, ◌++◌, take}
use Rattle.std.specs.List.{flat_map}
use Rattle.ffc_answer.specs.Seen.{definition_with}
use Rattle.ffc_answer.proofs.models.append_definitions.Given as goal

abbrev pub invariant-loop-constant : goal.invariant-loop-constant
invariant-loop-constant l = l.out.items ≡ l.fn.out.items ++ flat_map (definition_with l.values) (take l.constant-index l.declared)
