use Rattle.std.proofs.Common.{◌++◌, drop, heap_items}
use Rattle.std.specs.List.Sorted.{IsPermutation}
use Rattle.ffc_encode.specs.Waiting.{geometric}
use Rattle.ffc_encode.proofs.sums.owe_all.Given as goal

abbrev pub invariant-loop-id : goal.invariant-loop-id
invariant-loop-id g l =
    let value = g.F.Field.value in
    let p = g.F.Field.ORDER in
    IsPermutation (geometric p (value l.fn.first) (value l.ratio) l.ids ++ heap_items l.initial.waiting) (geometric p (value l.weight) (value l.ratio) (drop l.id-index l.ids) ++ heap_items l.waiting)
