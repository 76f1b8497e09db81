use Rattle.std.proofs.Common.{◌≡◌, ◌++◌, map, take, drop}
use Rattle.ffc_uni.proofs.Passes.{with_multiple}
use Rattle.ffc_cktree.proofs.rows.add_multiple.Given as goal

abbrev pub invariant-loop-place : goal.invariant-loop-place
invariant-loop-place g l =
    let value = g.F.Field.value in
    let p = g.F.Field.ORDER in
    map value (take l.place l.out) ++ with_multiple p (value l.c) (map value (drop l.place l.row)) (map value (drop l.place l.out))
    ≡ with_multiple p (value l.c) (map value l.row) (map value l.initial.out)
