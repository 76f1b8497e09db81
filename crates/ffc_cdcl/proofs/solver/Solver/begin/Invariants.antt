use Rattle.std.proofs.Common.{◌≡◌}
use Rattle.ffc_cdcl.proofs.solver.Solver.begin.Given as goal

abbrev pub invariant-loop-k : goal.invariant-loop-k
invariant-loop-k l = l.search.trail ≡ l.initial.search.trail

abbrev pub invariant-loop-k-2 : goal.invariant-loop-k-2
invariant-loop-k-2 l = l.search.trail ≡ l.initial.search.trail

abbrev pub invariant-loop-k-3 : goal.invariant-loop-k-3
invariant-loop-k-3 l = l.search.trail ≡ l.initial.search.trail
