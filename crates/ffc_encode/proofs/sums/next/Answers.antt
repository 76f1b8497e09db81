use Rattle.std.proofs.Common.{heap_items}
use Rattle.ffc_encode.proofs.WaitingLemmas.{first_taken, more_taken, top_node}
use Rattle.ffc_encode.proofs.sums.next.Goals as goal

pub same-init : goal.same-init
same-init g c =
    first_taken g.F.Field.ORDER (heap_items c.args.waiting.now) (heap_items c.pop.new.self) c.in-Some.first (g.F.Field.value c.of-weight.result) c.from.result c.in-Some.ensures.permutation c.of-weight.ensures c.from.ensures

pub same-preserved : goal.same-preserved
same-preserved g c =
    let value = g.F.Field.value in
    let now = heap_items c.same.waiting in
    let other = c.in-Some-pop.other in
    let node = c.in-Some.first.node in
    more_taken g.F.Field.ORDER (heap_items c.args.waiting.now) now (heap_items c.pop-in-same.new.self) other node (value c.same.weight) (value c.add-weight.result) (value c.of.result) c.from-in-same.result
    c.same.invariant c.in-Some-pop.ensures.permutation (top_node now other node (c.is_next.ensures c.same-test.true) c.in-Some-pop.ensures.top) c.add-weight.ensures c.of.ensures c.from-in-same.ensures
