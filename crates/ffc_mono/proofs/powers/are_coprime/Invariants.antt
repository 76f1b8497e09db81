use Rattle.std.proofs.Common.{◌+◌, ◌↔◌, length}
use Rattle.ffc_ring.specs.Monomial.{IsMonomial, AreCoprime}
use Rattle.ffc_mono.proofs.powers.are_coprime.Given as goal

abbrev pub invariant-loop-p : goal.invariant-loop-p
invariant-loop-p l = record {
  left_is : IsMonomial l.left;
  right_is : IsMonomial l.right;
  same : AreCoprime l.left l.right ↔ AreCoprime l.fn.first l.fn.second;
}

abbrev pub decreases-loop-p : goal.decreases-loop-p
decreases-loop-p l = length l.left + length l.right
