use Rattle.std.proofs.Common.{◌≡◌, ℕ, ◌<◌, false, length, get_or, take}
use Rattle.ffc_clause.specs.Clauses.{is_among}
use Rattle.ffc_combination.proofs.literals.marks_of.Given as goal

abbrev pub invariant-loop-literal : goal.invariant-loop-literal
invariant-loop-literal l = record {
  long : length l.marks.items ≡ l.nodes;
  marked : (id : ℕ) → id < l.nodes → get_or l.marks.items id false ≡ is_among (take l.literal-index l.literals) (l.truth, id);
}
