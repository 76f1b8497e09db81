use Rattle.std.proofs.Common.{◌++◌, refl, sym, ap, subst, arith, heap_items}
use Rattle.ffc_ring.specs.Polynomial.{SamePolynomial}
use Rattle.ffc_poly.specs.Ordered.{sum_of}
use Rattle.ffc_trees.specs.NodePolynomials.{node_polys, poly_at}
use Rattle.ffc_encode.specs.Opening.{IsReady, IsOpenable}
use Rattle.ffc_encode.specs.Waiting.{owed}
use Rattle.ffc_encode.proofs.OpeningLemmas.{taken_size}
use Rattle.ffc_encode.proofs.WaitingLemmas.{first_waits, one_waits, taken_has, left_have, settled_worth, nothing_waits}
use Rattle.ffc_encode.proofs.sums.sum_at.Goals as goal

pub loop-item-init : goal.loop-item-init
loop-item-init g c =
    let p = g.F.Field.ORDER in
    let nodes = c.args.table.now in
    let id = c.args.id in
    let one = g.F.Field.value c.of.result in
    let none = heap_items c.new-waiting.result in
    let items = heap_items c.owe.new.waiting in
    record {
      nodes = one_waits (IsOpenable nodes p (IsReady nodes c.args.known.now)) id one none items c.new-waiting.ensures.items c.requires.opens c.in_ok-owe.ensures;
      same = first_waits p (node_polys nodes) (sum_of c.new-parts.result.items) items none one id (ap sum_of c.new-parts.ensures.items) c.new-waiting.ensures.items c.in_ok-owe.ensures c.of.ensures;
    }

pub settle-requires-clause-node : goal.settle-requires-clause-node
settle-requires-clause-node g c =
    let nodes = c.args.table.now in
    let p = g.F.Field.ORDER in
    taken_has (IsOpenable nodes p (IsReady nodes c.args.known.now)) p (heap_items c.loop-item.waiting) c.in-Some.item (heap_items c.next.new.waiting) c.in-Some.ensures c.loop-item.invariant.nodes

pub settle-requires-clause-waiting : goal.settle-requires-clause-waiting
settle-requires-clause-waiting g c =
    let nodes = c.args.table.now in
    let p = g.F.Field.ORDER in
    left_have (IsOpenable nodes p (IsReady nodes c.args.known.now)) p (heap_items c.loop-item.waiting) c.in-Some.item (heap_items c.next.new.waiting) c.in-Some.ensures c.loop-item.invariant.nodes

pub loop-item-smaller : goal.loop-item-smaller
loop-item-smaller g c =
    omega (arith, c.in_ok-settle.ensures.less, taken_size c.args.table.now g.F.Field.ORDER (heap_items c.loop-item.waiting) c.in-Some.item (heap_items c.next.new.waiting) c.in-Some.ensures)

pub loop-item-preserved : goal.loop-item-preserved
loop-item-preserved g c =
    let p = g.F.Field.ORDER in
    let nodes = c.args.table.now in
    let polys = node_polys nodes in
    let item = c.in-Some.item in
    record {
      nodes = c.in_ok-settle.ensures.waiting;
      same = settled_worth p polys (sum_of c.loop-item.parts.items) (sum_of c.settle.new.parts.items ++ owed polys (heap_items c.settle.new.waiting)) (poly_at nodes item.node) (poly_at nodes c.args.id) (heap_items c.loop-item.waiting) (heap_items c.next.new.waiting) item
          c.in-Some.ensures refl c.in_ok-settle.ensures.same c.loop-item.invariant.same;
    }

pub total-requires-clause-same : goal.total-requires-clause-same
total-requires-clause-same g c =
    let p = g.F.Field.ORDER in
    let nodes = c.args.table.now in
    subst (λ l. SamePolynomial p (sum_of l) (poly_at nodes c.args.id)) (sym c.as_slice.ensures.value)
    (nothing_waits p (node_polys nodes) (sum_of c.loop-item.parts.items) (poly_at nodes c.args.id) (heap_items c.loop-item.waiting) c.in_default.ensures c.loop-item.invariant.same)
