use Rattle.std.proofs.Common.{arith}
use Rattle.ffc_basis.proofs.FewLemmas.{pending_is_at, not_settled}
use Rattle.ffc_basis.proofs.PairTableLemmas.{not_so}
use Rattle.ffc_basis.proofs.queue.waiting_at.Goals as goal

pub returns-then-not-is_settled : goal.returns-then-not-is_settled
returns-then-not-is_settled c =
    pending_is_at c.args.pairs.now c.args.place _ (omega arith)
    (not_settled _ (λ one. not_so c.is_settled.result c.if-not-is_settled.true (c.is_settled.ensures.1 one)))
