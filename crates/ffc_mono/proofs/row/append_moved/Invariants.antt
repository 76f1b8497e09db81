use Rattle.std.proofs.Common.{◌≡◌, ◌+◌, ◌-◌, ◌≤◌, ◌++◌, map, take, length}
use Rattle.std.specs.Vec.{vec_len, vec_capacity}
use Rattle.ffc_mono.specs.Rows.{moved}
use Rattle.ffc_mono.proofs.row.append_moved.Given as goal

abbrev pub invariant-loop-mark : goal.invariant-loop-mark
invariant-loop-mark l = record {
  so_far : l.out.items ≡ l.fn.out.items ++ map (moved l.start l.place) (take l.mark-index l.marks);
  room : vec_len l.out + (length l.marks - l.mark-index) ≤ vec_capacity l.out;
}
