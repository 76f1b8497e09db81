use Rattle.std.proofs.Common.{sym, subst}
use Rattle.ffc_elab.specs.Kept.{IsKept}
use Rattle.ffc_elab.specs.Changes.{in_state, popped}
use Rattle.ffc_elab.proofs.OutcomeLemmas.{drop_plus}
use Rattle.ffc_elab.proofs.store.Store.pop.Goals as goal

pub loop-preserved : goal.loop-preserved
loop-preserved c = λ s h.
    subst (λ v. IsKept (in_state (record s { levels = v })) c.pop_level.new.self) (sym (drop_plus 1 c.loop.counter s.levels))
    (c.pop_level.ensures (popped c.loop.counter s) (c.loop.invariant s h))
