use Rattle.std.proofs.Common.{◌≡◌, ◌-◌}
use Rattle.ffc_terms.specs.Walking.{moved}
use Rattle.ffc_terms.proofs.walk.move_last.Given as goal

abbrev pub invariant-loop : goal.invariant-loop
invariant-loop l = moved (l.count - l.counter) l.from l.onto ≡ moved l.count l.initial.from l.initial.onto
