use Rattle.std.proofs.Common.{◌≡◌, take}
use Rattle.std.specs.Prelude.{flat_map}
use Rattle.ffc_bounds.specs.Monomials.{with_powers}
use Rattle.ffc_macaulay.proofs.monomials.with_variable.Given as goal

abbrev pub invariant-loop-m : goal.invariant-loop-m
invariant-loop-m l = l.found.items ≡ flat_map (with_powers l.highest l.variable) (take l.m-index l.others)
