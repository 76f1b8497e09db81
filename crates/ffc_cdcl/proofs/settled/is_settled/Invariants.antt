use Rattle.std.proofs.Common.{Contains}
use Rattle.std.specs.Prelude.{IfSome}
use Rattle.ffc_cdcl.specs.Trails.{IsOpen}
use Rattle.ffc_cdcl.proofs.settled.is_settled.Given as goal

abbrev pub invariant-loop-literal : goal.invariant-loop-literal
invariant-loop-literal l = IfSome l.found (λ first. Contains l.clause first × IsOpen l.trail first.1)
