use Rattle.std.proofs.Common.{◌≡◌, drop}
use Rattle.ffc_bounds.specs.Monomials.{monomials}
use Rattle.ffc_macaulay.proofs.monomials.monomials.Given as goal

abbrev pub invariant-loop-place : goal.invariant-loop-place
invariant-loop-place l = l.found.items ≡ monomials l.degree (drop l.place l.variables)
