use Rattle.std.proofs.Common.{◌≡◌, ℕ, ◌+◌, ◌<◌, ◌||◌, false, length, drop, get_or}
use Rattle.ffc_rules.specs.Cones.{is_listed}
use Rattle.ffc_rules.specs.Cores.{clause_lines, reached_clauses, numbers_taken, numbers_reached}
use Rattle.ffc_core.proofs.cores.taken.Given as goal

abbrev pub invariant-loop-line : goal.invariant-loop-line
invariant-loop-line l =
    let found = reached_clauses 0 (clause_lines l.lines) in
    record {
      left : l.k + length (clause_lines (drop l.line-index l.lines)) ≡ length (clause_lines l.lines);
      len : length l.numbers.items ≡ l.in_force;
      so_far : (a : ℕ) → a < l.in_force → (get_or l.numbers.items a false || is_listed (numbers_taken found l.k (clause_lines (drop l.line-index l.lines))) a) ≡ is_listed (numbers_reached l.lines) a;
    }
