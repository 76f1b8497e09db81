use Rattle.std.proofs.Common.{◌≡◌}
use Rattle.ffc_cdcl.proofs.search.Search.simplified.Given as goal

abbrev pub invariant-loop-literal : goal.invariant-loop-literal
invariant-loop-literal l = l.self.trail ≡ l.initial.self.trail

abbrev pub invariant-loop-literal-2 : goal.invariant-loop-literal-2
invariant-loop-literal-2 l = l.self.trail ≡ l.initial.self.trail
