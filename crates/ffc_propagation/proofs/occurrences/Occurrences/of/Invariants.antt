use Rattle.std.proofs.Common.{◌≡◌, ℕ, ◌*◌, ◌<◌, false, [], length, slice_index_or}
use Rattle.ffc_propagation.specs.Counts.{IsCounted}
use Rattle.ffc_propagation.specs.Rows.{clause_at, AreRows}
use Rattle.ffc_propagation.specs.Settling.{clauses_of}
use Rattle.ffc_propagation.proofs.occurrences.Occurrences.of.Given as goal

abbrev pub invariant-loop-number : goal.invariant-loop-number
invariant-loop-number l = record {
  wide : length l.rows ≡ 2 * l.nodes;
  long : length l.counts.items ≡ l.number;
  rows : AreRows (clauses_of l.clauses) l.number [] l.rows;
  counted : (k : ℕ) → k < l.number → IsCounted (λ m. false) (clause_at (clauses_of l.clauses) k) (slice_index_or l.counts.items k 0);
}
