-- Checks that declare the constants among their nodes.
use Rattle.std.proofs.Common.{ℕ, List, All, get_or}
use Rattle.std.proofs.lemmas.List.Elements.{Contains-get_or}
use Rattle.ffc_field.specs.Orders.{IsOrder}
use Rattle.ffc_term.specs.declared.node.Node.{Node}
use Rattle.ffc_term.specs.Tables.{IsTable, IsBooleanAt}
use Rattle.ffc_term.specs.Checks.{AreConstantsOf, IsValidCheck}

-- Boolean nodes and the constants of their check
pub valid_over : (ns : List Node) (declared ids : List ℕ) (order : ℕ) → IsTable ns → IsOrder order → All (IsBooleanAt ns) ids → AreConstantsOf ns ids declared → IsValidCheck ns declared ids order
valid_over ns declared ids order table known boolean constants = record {
  table = table;
  order = known;
  increasing = constants.increasing;
  constants = λ k d inside. ((constants.each (get_or declared k d)).0 (Contains-get_or declared k d inside)).1;
  boolean = boolean;
  covered = λ id of const. (constants.each id).1 (of, const);
}
