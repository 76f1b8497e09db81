use Rattle.std.proofs.Common.{◌≡◌, ◌+◌, ◌*◌, ◌^◌, ◌≤◌, drop}
use Rattle.ffc_ring.specs.Monomial.{IsMonomialFrom, degree}
use Rattle.ffc_ckpoly.proofs.powers.written_degree.Given as goal

abbrev pub invariant-loop-variable : goal.invariant-loop-variable
invariant-loop-variable l = record {
  rest : IsMonomialFrom l.next (drop l.variable-index l.m);
  few : l.next ≤ 2 ^ 32;
  low : l.sum ≤ 4294967295 * l.next;
  so_far : l.sum + degree (drop l.variable-index l.m) ≡ degree l.m;
}
