use Rattle.std.proofs.Common.{◌+◌, ◌++◌, get_or, drop, heap_items}
use Rattle.std.proofs.lemmas.List.Sorted.{IsPermutation-refl}
use Rattle.ffc_encode.specs.Waiting.{geometric}
use Rattle.ffc_encode.proofs.WaitingLemmas.{geometric_step, geometric_end, nothing_past, left_at, get_or-any}
use Rattle.ffc_encode.proofs.sums.owe_all.Goals as goal

pub loop-id-init : goal.loop-id-init
loop-id-init g c =
    IsPermutation-refl (geometric g.F.Field.ORDER (g.F.Field.value c.args.first) (g.F.Field.value c.args.ratio) c.args.ids.now ++ heap_items c.args.waiting.now)

pub loop-id-preserved : goal.loop-id-preserved
loop-id-preserved g c =
    let value = g.F.Field.value in
    let p = g.F.Field.ORDER in
    let ids = c.args.ids.now in
    let i = c.loop-id.id-index in
    let id = get_or ids i 0 in
    let r = value c.args.ratio in
    let left = left_at ids i id c.loop-id-test.true (get_or-any ids i 0 id c.loop-id-test.true) in
    geometric_step p (value c.loop-id.weight) (value c.mul-weight.result) r id (drop i ids) (drop (i + 1) ids) (geometric p (value c.args.first) r ids ++ heap_items c.args.waiting.now)
    (heap_items c.loop-id.waiting) (heap_items c.owe.new.waiting) left c.mul-weight.ensures c.loop-id.invariant c.in_ok-owe.ensures

pub returns : goal.returns
returns g c =
    let value = g.F.Field.value in
    let p = g.F.Field.ORDER in
    let ids = c.args.ids.now in
    let r = value c.args.ratio in
    geometric_end p (value c.loop-id.weight) r (drop c.loop-id.id-index ids) (geometric p (value c.args.first) r ids ++ heap_items c.args.waiting.now) (heap_items c.loop-id.waiting)
    (nothing_past c.loop-id.id-index ids c.loop-id-test.false) c.loop-id.invariant
