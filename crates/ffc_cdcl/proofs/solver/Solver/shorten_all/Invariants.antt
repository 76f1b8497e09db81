use Rattle.std.proofs.Common.{◌≡◌}
use Rattle.ffc_cdcl.specs.State.{SameClauses}
use Rattle.ffc_cdcl.proofs.solver.Solver.shorten_all.Given as goal

abbrev pub invariant-loop-k : goal.invariant-loop-k
invariant-loop-k l = record {
  same : SameClauses l.initial.self l.self;
  lemmas : l.self.lemmas ≡ l.initial.self.lemmas;
}
