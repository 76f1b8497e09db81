use Rattle.std.proofs.Common.{◌≡◌, drop, nat_lt}
use Rattle.std.specs.List.{list_all}
use Rattle.ffc_check.proofs.walk.are_earlier.Given as goal

abbrev pub invariant-loop-hint : goal.invariant-loop-hint
invariant-loop-hint l = list_all (λ h. nat_lt h l.count) (drop l.hint-index l.hints) ≡ list_all (λ h. nat_lt h l.count) l.hints
