use Rattle.ffc_term.proofs.TableLemmas.{IsWellFormed-nil, AreKept-nil}
use Rattle.ffc_term.proofs.store.Store.new.Goals as goal

pub invariant_of-result : goal.invariant_of-result
invariant_of-result c = rw (c.new.ensures.empty, c.new-2.ensures.items) (IsWellFormed-nil, AreKept-nil)
