use Rattle.std.specs.Prelude.{MatchOption}
use Rattle.ffc_poly.specs.Tails.{AreEmpty, IsHighest}
use Rattle.ffc_poly.proofs.tails.highest.Given as goal

abbrev pub invariant-loop-i : goal.invariant-loop-i
invariant-loop-i g l = MatchOption l.best (AreEmpty l.tails l.i) (λ b. IsHighest g.O.MonoOrder.cmp l.tails l.i b)
