use Rattle.std.proofs.Common.{List, map}
use Rattle.ffc_clause.specs.Clauses.{Clause, negated}
use Rattle.ffc_cdcl.specs.State.{IsKept}
use Rattle.ffc_cdcl.specs.Steps.{Names, AreNamed, clauses_of}
use Rattle.ffc_cdcl.specs.Walking.{HasTaken}
use Rattle.ffc_cdcl.proofs.solver.Solver.step.Given as goal

abbrev pub invariant-loop-hint : goal.invariant-loop-hint
invariant-loop-hint l =
    (taken : List Clause) × HasTaken (map negated l.learned.clause) taken l.walk × AreNamed (Names (IsKept l.self.lemmas) l.self.added (clauses_of l.steps)) l.hints.items taken
