use Rattle.std.proofs.Common.{◌≤◌}
use Rattle.ffc_cdcl.specs.Trails.{Pays}
use Rattle.ffc_cdcl.proofs.search.Search.visit_all.Given as goal

abbrev pub invariant-loop-k : goal.invariant-loop-k
invariant-loop-k l = record {
  pays : Pays l.initial.self.trail l.self.trail l.initial.meter l.meter;
  after : l.kept ≤ l.k;
}
