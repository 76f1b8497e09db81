use Rattle.std.proofs.Common.{◌≡◌, ℕ, true, List, ◌++◌, length, take}
use Rattle.ffc_term.specs.declared.node.Node.TheVariants.{And}
use Rattle.ffc_term.specs.Nodes.{IsNodeAt}
use Rattle.ffc_rules.specs.Cones.{is_listed}
use Rattle.ffc_rules.specs.Entries.{NodeCheck}
use Rattle.ffc_conjunction.specs.Forced.{IsForcing}
use Rattle.ffc_conjunction.proofs.forcing.Forcing.assert_parts.Given as goal

abbrev pub invariant-loop-index : goal.invariant-loop-index
invariant-loop-index l = record {
  long : length l.self.marks.items ≡ length l.initial.self.marks.items;
  forced : (c : NodeCheck) (found denied : List ℕ) → IsNodeAt c.nodes l.node (And l.ids) → is_listed found l.node ≡ true → IsForcing c found denied l.initial.self
      → IsForcing c (take l.index l.ids ++ found) denied l.self;
}
