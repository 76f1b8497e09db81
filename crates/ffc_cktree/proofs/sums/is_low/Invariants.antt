use Rattle.std.proofs.Common.{◌≡◌, ◌+◌, ◌≤◌, drop}
use Rattle.ffc_ring.specs.Monomial.{degree}
use Rattle.ffc_cktree.proofs.sums.is_low.Given as goal

abbrev pub invariant-loop-power : goal.invariant-loop-power
invariant-loop-power l = record {
  low : l.total ≤ 1024;
  so_far : l.total + degree (drop l.power-index l.powers) ≡ degree l.powers;
}
