use Rattle.std.proofs.Common.{◌≡◌, ◌+◌, ◌≤◌, ◌++◌, length, map, take, vec_len, vec_capacity}
use Rattle.ffc_elab.proofs.assuming.push_nodes.Given as goal

abbrev pub invariant-loop-term : goal.invariant-loop-term
invariant-loop-term l = record {
  put : l.nodes.items ≡ l.initial.nodes.items ++ map (λ a. a.node) (take l.term-index l.asked);
  room : vec_len l.nodes + length l.asked ≤ vec_capacity l.nodes + l.term-index;
}
