use Rattle.std.proofs.Common.{◌≡◌, ◌+◌, drop}
use Rattle.ffc_ring.specs.Monomial.{degree}
use Rattle.ffc_ckpoly.proofs.powers.degree.Given as goal

abbrev pub invariant-loop-power : goal.invariant-loop-power
invariant-loop-power l = l.sum + degree (drop l.power-index l.m) ≡ degree l.m
