use Rattle.std.proofs.Common.{◌≡◌, drop}
use Rattle.ffc_clause.specs.Hints.{open_literals}
use Rattle.ffc_cdcl.specs.Opening.{opening_from, opening_of}
use Rattle.ffc_cdcl.proofs.walk.opening_under.Given as goal

abbrev pub invariant-loop-literal : goal.invariant-loop-literal
invariant-loop-literal l = opening_from l.found (open_literals l.assumed (drop l.literal-index l.clause)) ≡ opening_of (open_literals l.assumed l.clause)
