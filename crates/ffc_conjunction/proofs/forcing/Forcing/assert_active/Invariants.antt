use Rattle.std.proofs.Common.{◌≡◌, [], ◌++◌, length, take}
use Rattle.ffc_rules.specs.Entries.{NodeCheck}
use Rattle.ffc_conjunction.specs.Forced.{IsForcing}
use Rattle.ffc_conjunction.proofs.forcing.Forcing.assert_active.Given as goal

abbrev pub invariant-loop-number : goal.invariant-loop-number
invariant-loop-number l = record {
  long : length l.self.marks.items ≡ length l.initial.self.marks.items;
  forced : (c : NodeCheck) → c.in_force ≡ l.ids → IsForcing c [] [] l.initial.self → IsForcing c (take l.number l.ids ++ []) [] l.self;
}
