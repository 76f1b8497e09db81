use Rattle.std.proofs.Common.{sym}
use Rattle.ffc_term.proofs.NodeLemmas.{IsNodeAt-from_position, not_Contains-from_any}
use Rattle.ffc_term.proofs.store.Store.find.Goals as goal

pub returns-in_err-at-clause-none : goal.returns-in_err-at-clause-none
returns-in_err-at-clause-none c =
    rw c.from_residual.ensures (rw (← c.self.view_is) (not_Contains-from_any _ _ (sym c.in_err-at.ensures.found)))

pub returns-clause-found : goal.returns-clause-found
returns-clause-found c = rw (← c.self.view_is) (IsNodeAt-from_position _ _ _ (sym c.in_ok-at.ensures.index))
