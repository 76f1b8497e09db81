use Rattle.std.proofs.Common.{◌≡◌, ◌+◌, ◌^◌, ◌<◌, length}
use Rattle.ffc_ring.specs.Monomial.{IsMonomial, degree, mono_lcm}
use Rattle.ffc_mono.proofs.powers.lcm_degree.Given as goal

abbrev pub invariant-loop-p : goal.invariant-loop-p
invariant-loop-p l = record {
  left_is : IsMonomial l.left;
  right_is : IsMonomial l.right;
  fits : l.total + (degree l.left + degree l.right) < 2 ^ 32;
  so_far : l.total + degree (mono_lcm l.left l.right) ≡ degree (mono_lcm l.fn.first l.fn.second);
}

abbrev pub decreases-loop-p : goal.decreases-loop-p
decreases-loop-p l = length l.left + length l.right
