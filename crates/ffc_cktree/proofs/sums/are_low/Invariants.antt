use Rattle.std.proofs.Common.{◌≡◌, drop}
use Rattle.ffc_cktree.specs.Lines.{are_low}
use Rattle.ffc_cktree.proofs.sums.are_low.Given as goal

abbrev pub invariant-loop-term : goal.invariant-loop-term
invariant-loop-term l = are_low (drop l.term-index l.terms) ≡ are_low l.terms
