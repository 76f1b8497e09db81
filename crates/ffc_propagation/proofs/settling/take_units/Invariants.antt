use Rattle.std.proofs.Common.{ℕ, ◌<◌, All}
use Rattle.ffc_rules.specs.Entries.{NodeCheck}
use Rattle.ffc_propagation.specs.Forcing.{IsGivenClause, IsForcing}
use Rattle.ffc_propagation.specs.Settling.{clauses_of, IsSettledAt}
use Rattle.ffc_propagation.specs.Trails.{IsGrown}
use Rattle.ffc_propagation.proofs.settling.take_units.Given as goal

abbrev pub invariant-loop-number : goal.invariant-loop-number
invariant-loop-number l = record {
  grown : IsGrown l.initial.trail l.trail;
  settled : (k : ℕ) → k < l.number → IsSettledAt (clauses_of l.clauses) l.trail l.occurrences k;
  forced : (c : NodeCheck) → All (IsGivenClause c) l.clauses → IsForcing c l.initial.trail → IsForcing c l.trail;
}
