use Rattle.std.proofs.Common.{◌≡◌, take}
use Rattle.ffc_ring.specs.Monomial.{degree}
use Rattle.ffc_mono.proofs.powers.degree_of.Given as goal

abbrev pub invariant-loop-exponent : goal.invariant-loop-exponent
invariant-loop-exponent l = l.total ≡ degree (take l.exponent-index l.powers)
