use Rattle.std.proofs.Common.{◌≡◌, ℕ, ◌<◌, length, get_or, take, drop}
use Rattle.std.specs.List.{list_all}
use Rattle.ffc_term.specs.Values.{HoldsValues, truth, value_at}
use Rattle.ffc_term.proofs.table.NodeTable.are_true.Given as goal

abbrev pub invariant-loop-id : goal.invariant-loop-id
invariant-loop-id l = record {
  held : HoldsValues l.self l.values (take l.id-index l.nodes) l.initial.out l.out;
  before : (j : ℕ) → j < l.id-index → l.next < length l.roots → get_or l.nodes j 0 < get_or l.roots l.next 0;
  rest : list_all (λ id. truth (value_at l.self l.values id)) (drop l.next l.roots) ≡ list_all (λ id. truth (value_at l.self l.values id)) l.roots;
}
