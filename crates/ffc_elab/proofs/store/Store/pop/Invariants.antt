use Rattle.ffc_smt.specs.Scopes.{State}
use Rattle.ffc_elab.specs.Kept.{IsKept}
use Rattle.ffc_elab.specs.Changes.{in_state, popped}
use Rattle.ffc_elab.proofs.store.Store.pop.Given as goal

abbrev pub invariant-loop : goal.invariant-loop
invariant-loop l = (s : State) → IsKept (in_state s) l.fn.self → IsKept (in_state (popped l.counter s)) l.self
