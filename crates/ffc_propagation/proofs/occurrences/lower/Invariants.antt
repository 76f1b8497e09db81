use Rattle.std.proofs.Common.{◌≡◌, ℕ, ◌+◌, ◌==◌, count_by, take, slice_index_or}
use Rattle.ffc_propagation.proofs.occurrences.lower.Given as goal

abbrev pub invariant-loop-clause : goal.invariant-loop-clause
invariant-loop-clause l = (k : ℕ) → slice_index_or l.counts k 0 + count_by (λ j. j == k) (take l.clause-index l.row) ≡ slice_index_or l.initial.counts k 0
