use Rattle.ffc_cdcl.specs.Trails.{Pays}
use Rattle.ffc_cdcl.proofs.search.Search.visit_pairs.Given as goal

abbrev pub invariant-loop-k : goal.invariant-loop-k
invariant-loop-k l = Pays l.initial.self.trail l.self.trail l.initial.meter l.meter
