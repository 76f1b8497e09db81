use Rattle.std.proofs.Common.{subst, IfSome}
use Rattle.ffc_basis.specs.PairTable.{IsPendingAt}
use Rattle.ffc_basis.proofs.pairing.leave_out_next.Goals as goal

pub leave_out_at-requires-clause-pending : goal.leave_out_at-requires-clause-pending
leave_out_at-requires-clause-pending g c =
    let found : IsPendingAt c.as_slice.result.now c.in-Some.place =
    subst (λ o. IfSome o (IsPendingAt c.as_slice.result.now)) c.in-Some.is c.in_ok-next.ensures in
    subst (λ xs. IsPendingAt xs c.in-Some.place) c.as_slice.ensures.value found
