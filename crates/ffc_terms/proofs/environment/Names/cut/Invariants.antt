use Rattle.std.proofs.Common.{◌≡◌, ◌≤◌, ◌-◌, length, drop}
use Rattle.ffc_terms.proofs.environment.Names.cut.Given as goal

abbrev pub invariant-loop-self : goal.invariant-loop-self
invariant-loop-self g l = (l.len ≤ length l.self) × (length l.self ≤ length l.initial.self) × (l.self ≡ drop (length l.initial.self - length l.self) l.initial.self)

abbrev pub decreases-loop-self : goal.decreases-loop-self
decreases-loop-self g l = length l.self
