use Rattle.std.proofs.Common.{◌≡◌}
use Rattle.rows_solver.proofs.formulas.add_all.Given as goal

abbrev pub invariant-loop-clause : goal.invariant-loop-clause
invariant-loop-clause l = (l.solver.lemmas ≡ l.initial.solver.lemmas) × (l.solver.scopes ≡ l.initial.solver.scopes)
