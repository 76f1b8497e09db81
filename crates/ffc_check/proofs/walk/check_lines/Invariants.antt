use Rattle.std.proofs.Common.{◌≡◌, ◌+◌, ◌-◌, ◌≤◌, [], length, drop}
use Rattle.ffc_rules.specs.Entries.{limits, lines_fault}
use Rattle.ffc_check.specs.Judged.{judged_check}
use Rattle.ffc_check.proofs.walk.check_lines.Given as goal

-- what is broken first is found from here on, with the clauses so far
abbrev pub invariant-loop-i : goal.invariant-loop-i
invariant-loop-i l = record {
  inside : l.i ≤ length l.lines;
  nothing : l.state.assumed ≡ [];
  kept : l.state.kept ≡ l.check.table.now;
  so_far : lines_fault limits (judged_check l.check) l.state.clauses (l.line + l.i) 0 (drop l.i l.lines) ≡ lines_fault limits (judged_check l.check) [] l.line 0 l.lines;
}

abbrev pub decreases-loop-i : goal.decreases-loop-i
decreases-loop-i l = length l.lines - l.i
