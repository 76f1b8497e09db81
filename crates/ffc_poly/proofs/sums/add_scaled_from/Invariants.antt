use Rattle.std.proofs.Common.{◌≡◌, ◌≤◌, ◌+◌, ◌-◌, ◌++◌, length, drop}
use Rattle.ffc_poly.proofs.Merging.{merged}
use Rattle.ffc_poly.proofs.sums.add_scaled_from.Given as goal

abbrev pub invariant-loop-i : goal.invariant-loop-i
invariant-loop-i g l =
    let p = g.F.Field.ORDER in
    let cmp = g.O.MonoOrder.cmp in
    let k = g.F.Field.value l.c in
    record {
      in_a : l.i ≤ length l.a;
      in_b : l.j ≤ length l.b;
      so_far : l.out ++ merged p cmp k (drop l.i l.a) (drop l.j l.b) ≡ merged p cmp k (drop l.fn.from_a l.a) (drop l.fn.from_b l.b);
    }

abbrev pub decreases-loop-i : goal.decreases-loop-i
decreases-loop-i g l = (length l.a - l.i) + (length l.b - l.j)
