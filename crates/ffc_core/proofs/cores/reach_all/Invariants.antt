use Rattle.std.proofs.Common.{◌≡◌, ℕ, ◌+◌, ◌<◌, ◌≤◌, false, length, drop, get_or}
use Rattle.ffc_rules.specs.Cones.{is_listed}
use Rattle.ffc_rules.specs.Cores.{clause_lines, reached_clauses}
use Rattle.ffc_core.proofs.cores.reach_all.Given as goal

abbrev pub invariant-loop-i : goal.invariant-loop-i
invariant-loop-i l = record {
  inside : l.i ≤ length l.lines;
  left : l.k + length (clause_lines (drop l.i l.lines)) ≡ length (clause_lines l.lines);
  len : length l.marks ≡ length l.fn.marks;
  so_far : (h : ℕ) → h < length l.fn.marks → get_or l.marks h false ≡ is_listed (reached_clauses l.k (clause_lines (drop l.i l.lines))) h;
}

abbrev pub decreases-loop-i : goal.decreases-loop-i
decreases-loop-i l = l.i
