use Rattle.std.proofs.Common.{◌≡◌, drop, nat_lt}
use Rattle.std.specs.List.{list_all}
use Rattle.ffc_cktree.proofs.sums.are_below.Given as goal

abbrev pub invariant-loop-term : goal.invariant-loop-term
invariant-loop-term l = list_all (λ t. nat_lt t.0 l.order) (drop l.term-index l.terms) ≡ list_all (λ t. nat_lt t.0 l.order) l.terms
