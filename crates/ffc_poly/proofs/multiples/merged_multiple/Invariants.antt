use Rattle.std.proofs.Common.{◌≡◌, ◌≤◌, ◌+◌, ◌-◌, ◌++◌, length, drop}
use Rattle.ffc_mono.specs.declared.mono.TheConstants.{DEGREE_LIMIT}
use Rattle.ffc_poly.specs.Ordered.{RowFits, times, next_product}
use Rattle.ffc_poly.proofs.Merging.{merged}
use Rattle.ffc_poly.proofs.multiples.merged_multiple.Given as goal

abbrev pub invariant-loop-i : goal.invariant-loop-i
invariant-loop-i g l =
    let p = g.F.Field.ORDER in
    let cmp = g.O.MonoOrder.cmp in
    let m = l.m.powers.now in
    let all = times p (g.F.Field.value l.c) m l.b in
    record {
      in_a : l.i ≤ length l.a;
      in_b : l.j ≤ length l.b;
      fits : RowFits DEGREE_LIMIT m (drop l.j l.b);
      next : l.product ≡ next_product m (drop l.j l.b);
      so_far : l.out ++ merged p cmp 1 (drop l.i l.a) (drop l.j all) ≡ merged p cmp 1 l.a all;
    }

abbrev pub decreases-loop-i : goal.decreases-loop-i
decreases-loop-i g l = (length l.a - l.i) + (length l.b - l.j)
