use Rattle.std.proofs.Common.{◌≡◌, ◌++◌, map}
use Rattle.std.specs.List.{range_with_len}
use Rattle.ffc_ring.specs.Monomial.{mono_mul}
use Rattle.ffc_bounds.specs.Monomials.{power}
use Rattle.ffc_macaulay.proofs.monomials.append_with_powers.Given as goal

abbrev pub invariant-loop-exponent : goal.invariant-loop-exponent
invariant-loop-exponent l = l.found.items ≡ l.fn.found.items ++ map (λ e. mono_mul (power l.variable e) l.m) (range_with_len 0 l.exponent)
