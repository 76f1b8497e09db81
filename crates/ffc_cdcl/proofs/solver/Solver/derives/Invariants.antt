use Rattle.std.proofs.Common.{◌≤◌, List, length, take, map, All}
use Rattle.ffc_clause.specs.Clauses.{Clause, negated}
use Rattle.ffc_cdcl.specs.State.{Implies, kept_clauses}
use Rattle.ffc_cdcl.specs.Walking.{HasTaken}
use Rattle.ffc_cdcl.proofs.solver.Solver.derives.Given as goal

abbrev pub invariant-loop-hint : goal.invariant-loop-hint
invariant-loop-hint l =
    (taken : List Clause) × HasTaken (map negated l.clause) taken l.walk × All (Implies (take l.base l.self.added) (kept_clauses l.self.lemmas)) taken × (l.base ≤ length l.self.added)
