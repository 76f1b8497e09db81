use Rattle.std.proofs.Common.{◌≡◌, ◌≤◌, length, map, drop}
use Rattle.ffc_clause.specs.Clauses.{negated}
use Rattle.ffc_cdcl.proofs.walk.assume_negated.Given as goal

abbrev pub invariant-loop-i : goal.invariant-loop-i
invariant-loop-i l = record {
  inside : l.i ≤ length l.literals;
  so_far : l.assumed ≡ map negated (drop l.i l.literals);
}

abbrev pub decreases-loop-i : goal.decreases-loop-i
decreases-loop-i l = l.i
