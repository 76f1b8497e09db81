use Rattle.std.proofs.Common.{◌≡◌, filter, take}
use Rattle.ffc_combination.specs.Forced.{is_forced_equality}
use Rattle.ffc_combination.proofs.literals.equalities_among.Given as goal

abbrev pub invariant-loop-id : goal.invariant-loop-id
invariant-loop-id l = l.found.items ≡ filter (is_forced_equality l.table l.literals l.truth) (take l.id-index l.nodes)
