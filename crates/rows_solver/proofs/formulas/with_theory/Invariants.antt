use Rattle.ffc_cdcl.specs.State.{AreListed}
use Rattle.rows_solver.proofs.formulas.with_theory.Given as goal

abbrev pub invariant-loop-text : goal.invariant-loop-text
invariant-loop-text g l = AreListed (g.T.Theory.lemmas l.theory) l.solver.lemmas
