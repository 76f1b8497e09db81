use Rattle.std.proofs.Common.{◌≢◌, ap}
use Rattle.ffc_basis.specs.PairTable.{settled_one}
use Rattle.ffc_basis.specs.declared.pair.PairState.TheVariants.{Pending}
use Rattle.ffc_basis.proofs.FewLemmas.{pending_is_at}
use Rattle.ffc_basis.proofs.PairTableLemmas.{each_next, not_so}
use Rattle.ffc_basis.proofs.pairing.first_pending.Goals as goal

pub loop-place-preserved : goal.loop-place-preserved
loop-place-preserved c =
    each_next (λ r. r.state ≢ Pending) c.args.records.now c.loop-place.place _ c.loop-place-test.true c.loop-place.invariant
    (λ pending. not_so c.is_pending.result c.if-is_pending.false (c.is_pending.ensures.1 pending))

pub returns-then-is_pending-clause-some : goal.returns-then-is_pending-clause-some
returns-then-is_pending-clause-some c =
    pending_is_at c.args.records.now c.loop-place.place _ c.loop-place-test.true (ap settled_one (c.is_pending.ensures.0 c.if-is_pending.true))
