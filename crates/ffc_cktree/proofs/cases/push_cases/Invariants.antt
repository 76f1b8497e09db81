use Rattle.std.proofs.Common.{◌≡◌, ◌++◌, reverse, drop}
use Rattle.ffc_cktree.specs.Waiting.{cases_at}
use Rattle.ffc_cktree.proofs.cases.push_cases.Given as goal

abbrev pub invariant-loop-place : goal.invariant-loop-place
invariant-loop-place l = reverse l.waiting.items ≡ cases_at l.mark l.x (drop l.place l.roots) ++ reverse l.fn.waiting.items
