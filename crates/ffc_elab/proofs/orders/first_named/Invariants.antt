use Rattle.std.proofs.Common.{All}
use Rattle.ffc_field.specs.Orders.{IsOrder}
use Rattle.ffc_elab.specs.Orders.{orders_of}
use Rattle.ffc_elab.proofs.OrderLemmas.{IsFirstFrom}
use Rattle.ffc_elab.proofs.orders.first_named.Given as goal

abbrev pub invariant-loop-i : goal.invariant-loop-i
invariant-loop-i l = All IsOrder (orders_of l.words) → IsFirstFrom l.words l.i
