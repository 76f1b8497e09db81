use Rattle.std.proofs.Common.{◌-◌, ◌≡◌, ◌≤◌, ℕ, All, [], take, drop, get_or, length}
use Rattle.std.specs.declared.cmp.Ordering.TheVariants.{Greater}
use Rattle.ffc_dense.proofs.columns.Columns.place_for.Given as goal

abbrev pub invariant-loop-low : goal.invariant-loop-low
invariant-loop-low g l =
    (l.low ≤ l.high) × (l.high ≤ length l.self.1) × All (λ k. g.O.MonoOrder.cmp (get_or l.self.0 k []) l.m ≡ Greater) (take l.low l.self.1)
    × All (λ k. g.O.MonoOrder.cmp l.m (get_or l.self.0 k []) ≡ Greater) (drop l.high l.self.1)

abbrev pub decreases-loop-low : goal.decreases-loop-low
decreases-loop-low g l = l.high - l.low
