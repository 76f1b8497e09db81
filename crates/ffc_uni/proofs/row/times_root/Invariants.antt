use Rattle.std.proofs.Common.{◌≡◌, ◌++◌, map, take, drop}
use Rattle.ffc_uni.proofs.Passes.{root_row}
use Rattle.ffc_uni.proofs.row.times_root.Given as goal

abbrev pub invariant-loop-place : goal.invariant-loop-place
invariant-loop-place g l =
    let value = g.F.Field.value in
    let p = g.F.Field.ORDER in
    map value (take l.place l.out) ++ root_row p (value l.fn.root) (value l.below) (map value (drop l.place l.out))
    ≡ root_row p (value l.fn.root) 0 (map value l.initial.out)
