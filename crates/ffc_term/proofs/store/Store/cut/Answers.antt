use Rattle.ffc_term.proofs.TableLemmas.{IsWellFormed-take, AreKept-take}
use Rattle.ffc_term.proofs.store.Store.cut.Goals as goal

pub invariant_of-self : goal.invariant_of-self
invariant_of-self c =
    rw (c.truncate.ensures.keys, c.truncate-2.ensures.items)
    (IsWellFormed-take _ _ c.self.invariant.0, AreKept-take _ _ _ c.self.invariant.1)
