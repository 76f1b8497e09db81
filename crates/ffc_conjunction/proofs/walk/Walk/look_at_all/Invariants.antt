use Rattle.std.proofs.Common.{◌≡◌, ℕ, ◌≤◌, List, [], length, drop}
use Rattle.ffc_rules.specs.Entries.{NodeCheck}
use Rattle.ffc_conjunction.specs.Walks.{IsWalk}
use Rattle.ffc_conjunction.proofs.walk.Walk.look_at_all.Given as goal

abbrev pub invariant-loop-k : goal.invariant-loop-k
invariant-loop-k l = record {
  within : l.k ≤ length l.nodes;
  long : length l.self.forcing.marks.items ≡ length l.table;
  walk : (c : NodeCheck) (ids : List ℕ) → c.nodes ≡ l.table → IsWalk c ids [] l.initial.self → IsWalk c ids (drop l.k l.nodes) l.self;
}

abbrev pub decreases-loop-k : goal.decreases-loop-k
decreases-loop-k l = l.k
