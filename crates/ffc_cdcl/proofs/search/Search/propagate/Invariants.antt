use Rattle.ffc_cdcl.specs.Trails.{Pays}
use Rattle.ffc_cdcl.proofs.search.Search.propagate.Given as goal

abbrev pub invariant-loop : goal.invariant-loop
invariant-loop l = Pays l.initial.self.trail l.self.trail l.initial.meter l.meter
