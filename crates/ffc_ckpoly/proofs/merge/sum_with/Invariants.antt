use Rattle.std.proofs.Common.{◌≡◌, ◌+◌, ◌-◌, ◌≤◌, ◌++◌, drop, length}
use Rattle.ffc_ckpoly.specs.Sorted.{residues, word_order}
use Rattle.ffc_ckpoly.proofs.Merging.{merged}
use Rattle.ffc_ckpoly.proofs.merge.sum_with.Given as goal

abbrev pub invariant-loop-i : goal.invariant-loop-i
invariant-loop-i g l =
    let value = g.F.Field.value in
    let p = g.F.Field.ORDER in
    record {
      i_in : l.i ≤ length l.a;
      j_in : l.j ≤ length l.b;
      so_far :
          residues value l.out.items ++ merged p word_order (value l.c) (residues value (drop l.i l.a)) (residues value (drop l.j l.b))
          ≡ merged p word_order (value l.c) (residues value l.a) (residues value l.b);
    }

abbrev pub decreases-loop-i : goal.decreases-loop-i
decreases-loop-i g l = (length l.a - l.i) + (length l.b - l.j)
