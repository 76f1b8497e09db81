use Rattle.std.proofs.Common.{◌≡◌, ◌+◌, ◌-◌, ℕ, None, get_or}
use Rattle.ffc_dense.proofs.table.extend.Given as goal

abbrev pub invariant-loop-kept : goal.invariant-loop-kept
invariant-loop-kept g l = (i : ℕ) → get_or l.kept.items i None ≡ get_or l.initial.kept.items i None

abbrev pub decreases-loop-kept : goal.decreases-loop-kept
decreases-loop-kept g l = l.slot + 1 - l.kept.len
