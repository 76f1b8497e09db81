use Rattle.std.proofs.Common.{◌≡◌, ℕ, ◌<◌, ◌==◌, All, length, drop, count_by}
use Rattle.ffc_rules.specs.Entries.{NodeCheck}
use Rattle.ffc_propagation.specs.Forcing.{IsGivenClause, IsForcing}
use Rattle.ffc_propagation.specs.Settling.{clauses_of, IsSettledAt}
use Rattle.ffc_propagation.specs.Trails.{IsGrown}
use Rattle.ffc_propagation.proofs.settling.take_row.Given as goal

abbrev pub invariant-loop-number : goal.invariant-loop-number
invariant-loop-number l = record {
  grown : IsGrown l.initial.trail l.trail;
  settled : (k : ℕ) → k < length l.clauses → count_by (λ j. j == k) (drop l.number-index l.row) ≡ 0 → IsSettledAt (clauses_of l.clauses) l.trail l.occurrences k;
  forced : (c : NodeCheck) → All (IsGivenClause c) l.clauses → IsForcing c l.initial.trail → IsForcing c l.trail;
}
