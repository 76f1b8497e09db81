use Rattle.std.proofs.Common.{◌≡◌, ◌+◌, ◌-◌, ℕ, length}
use Rattle.ffc_clause.specs.Marks.{mark_at}
use Rattle.ffc_check.proofs.assumed.reach.Given as goal

abbrev pub invariant-loop-marks : goal.invariant-loop-marks
invariant-loop-marks l = (k : ℕ) → mark_at l.marks.items k ≡ mark_at l.initial.marks.items k

abbrev pub decreases-loop-marks : goal.decreases-loop-marks
decreases-loop-marks l = l.place + 1 - length l.marks.items
