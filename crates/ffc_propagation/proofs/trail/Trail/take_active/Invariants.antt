use Rattle.std.proofs.Common.{◌≡◌, take}
use Rattle.ffc_rules.specs.Entries.{NodeCheck}
use Rattle.ffc_propagation.specs.Forcing.{IsForcing}
use Rattle.ffc_propagation.specs.Trails.{AreTaken}
use Rattle.ffc_propagation.proofs.trail.Trail.take_active.Given as goal

abbrev pub invariant-loop-number : goal.invariant-loop-number
invariant-loop-number l = record {
  taken : AreTaken (take l.number l.ids) l.initial.self l.self;
  forced : (c : NodeCheck) → c.in_force ≡ l.ids → IsForcing c l.initial.self → IsForcing c l.self;
}
