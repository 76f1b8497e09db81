use Rattle.ffc_cdcl.specs.State.{AreListed, SameClauses}
use Rattle.ffc_base.specs.Metering.{Takes}
use Rattle.ffc_cdcl.specs.Theories.{KeepsLemmas}
use Rattle.ffc_cdcl.proofs.solver.Solver.run.Given as goal

abbrev pub invariant-loop : goal.invariant-loop
invariant-loop g l = record {
  same : SameClauses l.initial.self l.self;
  listed : AreListed (g.T.Theory.lemmas l.theory) l.self.lemmas;
  kept : KeepsLemmas (g.T.Theory.lemmas l.initial.theory) (g.T.Theory.lemmas l.theory);
  meter : Takes l.initial.meter l.meter;
}
