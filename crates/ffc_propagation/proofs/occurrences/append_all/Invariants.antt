use Rattle.std.proofs.Common.{◌≡◌, ◌≤◌, false, List, [], length, take}
use Rattle.ffc_clause.specs.Clauses.{Clause}
use Rattle.ffc_propagation.specs.Counts.{IsCounted}
use Rattle.ffc_propagation.specs.Rows.{AreRows}
use Rattle.ffc_propagation.proofs.occurrences.append_all.Given as goal

abbrev pub invariant-loop-literal : goal.invariant-loop-literal
invariant-loop-literal l = record {
  long : length l.rows ≡ length l.initial.rows;
  few : l.count ≤ l.literal-index;
  rows : (clauses : List Clause) → AreRows clauses l.clause [] l.initial.rows → AreRows clauses l.clause (take l.literal-index l.literals) l.rows;
  counted : (clauses : List Clause) → AreRows clauses l.clause [] l.initial.rows → IsCounted (λ m. false) (take l.literal-index l.literals) l.count;
}
