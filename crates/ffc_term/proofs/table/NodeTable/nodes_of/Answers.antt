use Rattle.std.proofs.lemmas.Result.{IfOk-weaker}
use Rattle.ffc_term.proofs.WalkLemmas.{AreNodesOf-from_marks, IsClosed-from_AreNodesOf}
use Rattle.ffc_term.proofs.table.NodeTable.nodes_of.Goals as goal

pub returns-clause-nodes : goal.returns-clause-nodes
returns-clause-nodes c =
    IfOk-weaker _ _ _ (λ v found. AreNodesOf-from_marks _ _ _ _ c.mark_nodes.ensures.valid c.mark_nodes.ensures.marking found) c.marked.ensures

pub returns-clause-closed : goal.returns-clause-closed
returns-clause-closed c =
    IfOk-weaker _ _ _ (λ v found. IsClosed-from_AreNodesOf _ c.args.ids.now _ c.mark_nodes.ensures.valid c.requires (AreNodesOf-from_marks _ _ _ _ c.mark_nodes.ensures.valid c.mark_nodes.ensures.marking found)) c.marked.ensures
