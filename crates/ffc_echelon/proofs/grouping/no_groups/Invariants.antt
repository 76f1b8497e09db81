use Rattle.std.proofs.Common.{◌≡◌, [], map, replicate}
use Rattle.ffc_echelon.proofs.grouping.no_groups.Given as goal

abbrev pub invariant-loop : goal.invariant-loop
invariant-loop g l = map (λ h. h.items) l.groups.items ≡ replicate l.counter []
