use Rattle.std.proofs.Common.{◌≡◌, ◌+◌, ◌≤◌, ◌++◌, None, length, map, take, vec_len, vec_capacity}
use Rattle.ffc_elab.proofs.assuming.push_unnamed.Given as goal

abbrev pub invariant-loop : goal.invariant-loop
invariant-loop l = record {
  put : l.names.items ≡ l.initial.names.items ++ map (λ _. None) (take l.index l.asked);
  room : vec_len l.names + length l.asked ≤ vec_capacity l.names + l.index;
}
