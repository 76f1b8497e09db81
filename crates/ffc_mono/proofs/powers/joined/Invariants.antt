use Rattle.std.proofs.Common.{◌≡◌, ◌+◌, ◌^◌, ◌<◌, length, ◌++◌}
use Rattle.ffc_ring.specs.Monomial.{IsMonomial, degree, joined}
use Rattle.ffc_mono.specs.Joining.{joining_of}
use Rattle.ffc_mono.proofs.powers.joined.Given as goal

abbrev pub invariant-loop-p : goal.invariant-loop-p
invariant-loop-p l = record {
  left_is : IsMonomial l.left;
  right_is : IsMonomial l.right;
  fits : degree l.left + degree l.right < 2 ^ 32;
  so_far : l.out.items ++ joined (joining_of l.joining) l.left l.right ≡ joined (joining_of l.joining) l.fn.first l.fn.second;
}

abbrev pub decreases-loop-p : goal.decreases-loop-p
decreases-loop-p l = length l.left + length l.right
