use Rattle.std.proofs.Common.{◌≤◌, reverse}
use Rattle.ffc_term.specs.Marking.{AreMarkedFrom}
use Rattle.ffc_term.proofs.walk.marked.Given as goal

abbrev pub invariant-loop-id : goal.invariant-loop-id
invariant-loop-id l = record { found : AreMarkedFrom l.marks l.end (reverse l.found.items); within : l.end ≤ l.bound }

abbrev pub decreases-loop-id : goal.decreases-loop-id
decreases-loop-id l = l.end
