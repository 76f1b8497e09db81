use Rattle.std.proofs.Common.{◌≡◌, length}
use Rattle.ffc_mono.specs.Orders.{lex_cmp}
use Rattle.ffc_mono.proofs.order.first_difference.Given as goal

abbrev pub invariant-loop-p : goal.invariant-loop-p
invariant-loop-p l = lex_cmp l.left l.right ≡ lex_cmp l.fn.a l.fn.b

abbrev pub decreases-loop-p : goal.decreases-loop-p
decreases-loop-p l = length l.left
