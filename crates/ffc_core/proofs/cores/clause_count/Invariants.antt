use Rattle.std.proofs.Common.{◌≡◌, ◌+◌, ◌≤◌, length, drop}
use Rattle.ffc_rules.specs.Cores.{clause_lines}
use Rattle.ffc_core.proofs.cores.clause_count.Given as goal

abbrev pub invariant-loop-line : goal.invariant-loop-line
invariant-loop-line l = record {
  few : l.n ≤ l.line-index;
  so_far : l.n + length (clause_lines (drop l.line-index l.lines)) ≡ length (clause_lines l.lines);
}
