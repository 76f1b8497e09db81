use Rattle.std.proofs.Common.{All, ◌-◌, length}
use Rattle.ffc_rules.specs.Entries.{NodeCheck}
use Rattle.ffc_propagation.specs.Forcing.{IsGivenClause, IsForcing}
use Rattle.ffc_propagation.specs.Settling.{clauses_of, IsSettled}
use Rattle.ffc_propagation.specs.Trails.{IsGrown}
use Rattle.ffc_propagation.proofs.settling.settle.Given as goal

abbrev pub invariant-loop-looked : goal.invariant-loop-looked
invariant-loop-looked l = record {
  grown : IsGrown l.initial.trail l.trail;
  settled : IsSettled (clauses_of l.clauses) l.looked l.trail l.occurrences;
  forced : (c : NodeCheck) → All (IsGivenClause c) l.clauses → IsForcing c l.initial.trail → IsForcing c l.trail;
}

abbrev pub decreases-loop-looked : goal.decreases-loop-looked
decreases-loop-looked l = length l.trail.marks.items - l.looked
