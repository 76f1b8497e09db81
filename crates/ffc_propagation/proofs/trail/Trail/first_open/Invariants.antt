use Rattle.std.proofs.Common.{◌≡◌, [], filter, take}
use Rattle.ffc_propagation.specs.Trails.{is_open_at}
use Rattle.ffc_propagation.proofs.trail.Trail.first_open.Given as goal

abbrev pub invariant-loop-literal : goal.invariant-loop-literal
invariant-loop-literal l = filter (is_open_at l.self.marks.items) (take l.literal-index l.literals) ≡ []
