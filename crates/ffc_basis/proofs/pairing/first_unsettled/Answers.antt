use Rattle.ffc_basis.proofs.FewLemmas.{pending_is_at, not_settled}
use Rattle.ffc_basis.proofs.PairTableLemmas.{not_so}
use Rattle.ffc_basis.proofs.pairing.first_unsettled.Goals as goal

pub returns-then-not-is_settled-clause-some : goal.returns-then-not-is_settled-clause-some
returns-then-not-is_settled-clause-some c =
    pending_is_at c.args.records.now c.loop-place.place _ c.loop-place-test.true
    (not_settled _ (λ one. not_so c.is_settled.result c.if-not-is_settled.true (c.is_settled.ensures.1 one)))
