use Rattle.std.proofs.Common.{◌≡◌, ◌+◌, ◌^◌, ◌<◌, length, ◌++◌}
use Rattle.ffc_ring.specs.Monomial.{IsMonomial, degree, mono_mul}
use Rattle.ffc_ckpoly.proofs.powers.append_product.Given as goal

abbrev pub invariant-loop-p : goal.invariant-loop-p
invariant-loop-p l = record {
  left_is : IsMonomial l.left;
  right_is : IsMonomial l.right;
  fits : degree l.left + degree l.right < 2 ^ 64;
  so_far : l.out.items ++ mono_mul l.left l.right ≡ l.fn.out.items ++ mono_mul l.fn.m l.fn.n;
}

abbrev pub decreases-loop-p : goal.decreases-loop-p
decreases-loop-p l = length l.left + length l.right
