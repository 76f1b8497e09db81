use Rattle.std.proofs.Common.{◌≡◌}
use Rattle.ffc_cdcl.proofs.search.Search.decide.Given as goal

abbrev pub invariant-loop : goal.invariant-loop
invariant-loop l = l.meter ≡ l.initial.meter
