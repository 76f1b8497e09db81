use Rattle.std.proofs.Common.{option_map, sym, ap, ◌∙◌, arith}
use Rattle.ffc_field.specs.Orders.{order_of_id}
use Rattle.ffc_elab.proofs.OrderLemmas.{here_orders, first_here, first_later}
use Rattle.ffc_elab.proofs.orders.first_named.Goals as goal

pub returns-in-Some : goal.returns-in-Some
returns-in-Some c = λ all.
    let words = c.args.words.now in
    let h = c.loop-i.invariant all in
    sym (first_here words c.loop-i.i (omega arith) h (order_of_id c.in-Some.field) (sym (c.named_by.ensures (here_orders words c.loop-i.i (omega arith) h)) ∙ ap (option_map order_of_id) c.in-Some.is))

pub loop-i-preserved : goal.loop-i-preserved
loop-i-preserved c = λ all.
    let words = c.args.words.now in
    let h = c.loop-i.invariant all in
    first_later words c.loop-i.i (omega arith) h (sym (c.named_by.ensures (here_orders words c.loop-i.i (omega arith) h)) ∙ ap (option_map order_of_id) c.in-None.is)
