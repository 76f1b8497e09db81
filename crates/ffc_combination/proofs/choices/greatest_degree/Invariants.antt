use Rattle.std.proofs.Common.{◌≤◌, ℕ, All, take}
use Rattle.ffc_term.specs.Measuring.{degree_at}
use Rattle.ffc_combination.proofs.choices.greatest_degree.Given as goal

abbrev pub invariant-loop-id : goal.invariant-loop-id
invariant-loop-id l = record {
  bound : All (λ id. degree_at l.table id ≤ l.greatest) (take l.id-index l.ids);
  least : (m : ℕ) → All (λ id. degree_at l.table id ≤ m) l.ids → l.greatest ≤ m;
  low : l.greatest ≤ 255;
}
