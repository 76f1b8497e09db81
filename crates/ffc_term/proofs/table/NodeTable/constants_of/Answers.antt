use Rattle.std.proofs.Common.{ℕ, Vec, Global}
use Rattle.std.proofs.lemmas.Result.{IfOk-weaker}
use Rattle.ffc_term.proofs.CheckLemmas.{AreConstantsOf-same}
use Rattle.ffc_term.proofs.table.NodeTable.constants_of.Goals as goal

pub returns : goal.returns
returns c =
    IfOk-weaker {X = Vec ℕ Global} _ _ _ (λ v is. AreConstantsOf-same _ _ _ _ v.items c.in_ok-nodes.ensures.nodes c.deref.ensures.value is) c.constants_among.ensures
