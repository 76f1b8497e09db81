use Rattle.std.proofs.Common.{◌≡◌, ◌++◌, length}
use Rattle.ffc_ring.specs.Monomial.{IsMonomial, mono_quotient, Divides}
use Rattle.ffc_mono.proofs.powers.quotient.Given as goal

abbrev pub invariant-loop-p : goal.invariant-loop-p
invariant-loop-p l = record {
  left_is : IsMonomial l.left;
  right_is : IsMonomial l.right;
  divides : Divides l.right l.left;
  so_far : l.out.items ++ mono_quotient l.left l.right ≡ mono_quotient l.fn.first l.fn.by;
}

abbrev pub decreases-loop-p : goal.decreases-loop-p
decreases-loop-p l = length l.left
