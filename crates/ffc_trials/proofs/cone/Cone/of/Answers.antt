use Rattle.std.proofs.Common.{ℕ, List, filter, ap, ◌∙◌}
use Rattle.ffc_term.specs.Nodes.{is_constant, node_at}
use Rattle.ffc_check.specs.Judged.{judged_check}
use Rattle.ffc_trials.proofs.LimitLemmas.{nodes_are_cone}
use Rattle.ffc_trials.proofs.cone.Cone.of.Goals as goal

pub returns : goal.returns
returns c =
    let check = judged_check c.args.check.now in
    let all = nodes_are_cone check c.in_ok-nodes.nodes.items c.requires.valid c.in_ok-nodes.ensures.nodes in
    record {
      all = all;
      closed = c.in_ok-nodes.ensures.closed;
      increasing = c.in_ok-assertions.ensures.increasing;
      assertions = c.in_ok-assertions.ensures.same;
      constants = c.in_ok-constants.ensures ∙ ap (λ (ids : List ℕ). filter (λ id. is_constant (node_at check.nodes id)) ids) (c.as_slice.ensures.value ∙ all);
    }
